use Rattle.std.proofs.Common.{◌≡◌, ℕ, suc, List, [], ◌∷◌, get_or, Some, None, Option, sym, refl, ap₂, ◌∙◌, subst, add-one, arith, rules, tests}
use Rattle.std.specs.Option.{is_some, option_map}
use Rattle.std.specs.List.{position_from}
use Rattle.std.proofs.lemmas.Iterator.{YieldsList-from_slice}
use Rattle.std.proofs.lemmas.Iterator.Adapters.{position_from-zero}
use Rattle.std.proofs.lemmas.Iterator.Search.{position_from_yields_List}
use Rattle.std.proofs.lemmas.Option.{none-some, same_Some}
use Rattle.encodings.specs.Chunked.{first_present}
use Rattle.encodings.proofs.Chunked.{First, FirstIs, first_is, first_slot}
use Rattle.arrays.proofs.chunked.first_present.Goals as goal

-- the place of a slot, of the slot and its child
abbrev place : Option (ℕ × ℕ) → Option ℕ
place o = option_map (λ p. p.0) o

place_is : (ss : List (Option ℕ)) (from : ℕ) → position_from is_some from ss ≡ place (first_present ss from)
place_is [] from = refl
place_is (None ∷ ss) from = rw add-one (place_is ss (suc from))
place_is (Some c ∷ ss) from = refl

found_none : (o : Option (ℕ × ℕ)) → place o ≡ None → None ≡ o
found_none None e = refl
found_none (Some p) e = absurd (none-some p.0 (sym e))

found_some : (ss : List (Option ℕ)) (x c : ℕ) (o : Option (ℕ × ℕ)) → FirstIs ss 0 o → place o ≡ Some x → get_or ss x None ≡ Some c → Some (x, c) ≡ o
found_some ss x c None none e child = absurd (none-some x e)
found_some ss x c (Some p) first e child =
    let here : first.0 ≡ x = omega (arith, first.1, same_Some p.0 x e) in
    let same : c ≡ p.1 = same_Some c p.1 (sym child ∙ first_slot ss x p.1 (subst (λ (y : ℕ). First ss y p.1) here first.2)) in
    ap₂ (λ (y d : ℕ). Some (y, d)) (sym (same_Some p.0 x e)) same

pub returns-in_err-slot : goal.returns-in_err-slot
returns-in_err-slot c = c.from_residual.ensures ∙ found_none (first_present c.args.slots 0) (sym found ∙ c.in_err-slot.was)
  where
    found : c.position.result ≡ place (first_present c.args.slots 0)
    found =
        position_from_yields_List is_some _ _ c.position.result c.position.ensures.ran (YieldsList-from_slice c.args.slots (search rules)) (λ x b q k. search (rules, tests))
        ∙ position_from-zero is_some c.args.slots
        ∙ place_is c.args.slots 0

pub returns : goal.returns
returns c = found_some c.args.slots c.in_ok-slot.slot c.in_ok-slots.field-0 (first_present c.args.slots 0) (first_is c.args.slots 0) (sym found ∙ c.in_ok-slot.was) c.in_ok-slots.was
  where
    found : c.position.result ≡ place (first_present c.args.slots 0)
    found =
        position_from_yields_List is_some _ _ c.position.result c.position.ensures.ran (YieldsList-from_slice c.args.slots (search rules)) (λ x b q k. search (rules, tests))
        ∙ position_from-zero is_some c.args.slots
        ∙ place_is c.args.slots 0
