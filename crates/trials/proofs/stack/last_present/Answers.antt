use Rattle.std.proofs.Common.{◌≡◌, ℕ, zero, suc, ◌+◌, ◌<◌, true, false, List, [], ◌∷◌, length, get_or, take, drop, is_some, Some, None, Option, sym, refl, ap, ◌∙◌, arith, rules, tests}
use Rattle.std.proofs.lemmas.Option.{none-some, same_Some}
use Rattle.pool.specs.Counts.{names}
use Rattle.trials.specs.Stack.{last_present}
use Rattle.trials.proofs.stack.last_present.Goals as goal

-- where no slot is present, none is the last
none_last : (ss : List (Option ℕ)) (x : ℕ) → ((k : ℕ) → k < length ss → is_some (get_or ss k None) ≡ false) → last_present ss x ≡ None
none_last [] x e = refl
none_last (None ∷ ss) x e = none_last ss (suc x) (λ k l. e (suc k) (omega arith))
none_last (Some c ∷ ss) x e = absurd (let z : true ≡ false = e 0 (omega arith) in search rules)

-- a present slot with none after it is the last; it is number y, counted from x
one_last : (ss : List (Option ℕ)) (x y k c : ℕ) → y ≡ x + k → get_or ss k None ≡ Some c → ((j : ℕ) → k < j → j < length ss → is_some (get_or ss j None) ≡ false) → last_present ss x ≡ Some (y, c)
one_last [] x y k c at is e = absurd (none-some c is)
one_last (None ∷ ss) x y zero c at is e = absurd (none-some c is)
one_last (Some d ∷ ss) x y zero c at is e =
    let here : x ≡ y = omega (arith, at) in
    rw (none_last ss (suc x) (λ j l. e (suc j) (omega arith) (omega arith)), last_present) (λ i. Some (here i, same_Some d c is i))
one_last (None ∷ ss) x y (suc k) c at is e = one_last ss (suc x) y k c (omega (arith, at)) is (λ j a l. e (suc j) (omega arith) (omega arith))
one_last (Some d ∷ ss) x y (suc k) c at is e = rw (one_last ss (suc x) y k c (omega (arith, at)) is (λ j a l. e (suc j) (omega arith) (omega arith)), last_present) refl

-- slots that name nothing have no last one
last_taken : (n : ℕ) (ss : List (Option ℕ)) (x : ℕ) → names (drop n ss) ≡ [] → last_present ss x ≡ last_present (take n ss) x
last_taken zero [] x e = refl
last_taken zero (None ∷ ss) x e = last_taken zero ss (suc x) e
last_taken zero (Some c ∷ ss) x e = absurd (omega (arith, ap length e))
last_taken (suc n) [] x e = refl
last_taken (suc n) (None ∷ ss) x e = last_taken n ss (suc x) e
last_taken (suc n) (Some c ∷ ss) x e = ap (λ (o : Option (ℕ × ℕ)). elim o as (λ _. Option (ℕ × ℕ)) [ None ↦ Some (x, c) | Some p ↦ Some p ]) (last_taken n ss (suc x) e)

-- a slot that is present has a child
child_there : (o : Option ℕ) → is_some o ≡ true → (c : ℕ) × (o ≡ Some c)
child_there None e = absurd (search rules)
child_there (Some c) e = (c, refl)

pub returns-in_err-slot : goal.returns-in_err-slot
returns-in_err-slot c =
    let ss : List (Option ℕ) = c.args.node.now.slots in
    let none : (k : ℕ) → k < length ss → is_some (get_or ss k None) ≡ false = λ k l. search (rules, tests) in
    c.from_residual.ensures ∙ sym (none_last ss 0 none) ∙ last_taken c.args.node.now.arity ss 0 c.requires

pub returns : goal.returns
returns c =
    let ss : List (Option ℕ) = c.args.node.now.slots in
    let k : ℕ = c.in_ok-slot.slot in
    let here : is_some (get_or ss k None) ≡ true = search (rules, tests) in
    let after : (j : ℕ) → k < j → j < length ss → is_some (get_or ss j None) ≡ false = λ j a l. search (rules, tests) in
    let child = child_there (get_or ss k None) here in
    let gives : c.map.result ≡ Some (k, child.0) = search (rules, tests) in
    gives ∙ sym (one_last ss 0 k k child.0 (omega arith) child.1 after) ∙ last_taken c.args.node.now.arity ss 0 c.requires
