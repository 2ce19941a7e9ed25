-- The slots that name the nodes under roots, taken root by root.
use Rattle.std.proofs.Common.{◌≡◌, ℕ, suc, ◌+◌, ◌-◌, ◌<◌, ◌≤◌, true, false, ◌&&◌, ltb, is_some, List, [], ◌∷◌, ◌++◌, length, get_or, set, map, take, replicate, Some, None, Ok, Err, Option, Result, sym, refl, ap, ap₂, ◌∙◌, arith}
use Rattle.std.proofs.lemmas.List.{take_more, length-take-le, length-append}
use Rattle.std.proofs.lemmas.Bool.{lt-ltb, and_from}
use Rattle.std.proofs.lemmas.List.Elements.{All-get_or}
use Rattle.std.proofs.lemmas.List.Sums.{AllPass-from_list_all}
use Rattle.rows.specs.Kind.{Kinds}
use Rattle.pool.specs.Memory.{Memory, node_at}
use Rattle.encodings.specs.declared.fields.Fields.{Fields}
use Rattle.encodings.specs.declared.fields.Shape.{Shape}
use Rattle.encodings.specs.Meaning.{Encodings, LawfulEncodings, slots_fit, present}
use Rattle.encodings.specs.Rows.{shape_of}
use Rattle.planner.specs.declared.call.Refusal.{Refusal}
use Rattle.planner.specs.declared.call.Refusal.TheVariants.{RootEmpty, Slots}
use Rattle.planner.specs.Called.{State, root_at, root_in, held_in, has_room, counted, child_roots, roots_exist, nodes_under, padded, slots_under, fields_known, shapes, slots_for}
use Rattle.planner.specs.Contract.{shape_in}
use Rattle.planner.proofs.Gathering.{gathered_long, gathered_push, gathered_none}
use Rattle.planner.proofs.Assembling.{known_is, roots_all, counted_as}
use Rattle.planner.proofs.Outcomes.{root_ok, held_ok, held_err, empty_by}

-- the first of the slots that are left is filled
padded_push : (cs : List ℕ) (c n : ℕ) → set (present cs ++ replicate (suc n) None) (length cs) (Some c) ≡ present (cs ++ c ∷ []) ++ replicate n None
padded_push [] c n = refl
padded_push (x ∷ cs) c n = ap (λ (l : List (Option ℕ)). Some x ∷ l) (padded_push cs c n)

-- what slots are taken for these nodes
abbrev taken : Option (List ℕ) → Result (List (Option ℕ)) Refusal
taken o = elim o [ None ↦ Err RootEmpty | Some cs ↦ Ok (padded cs) ]

taken_ok : (o : Option (List ℕ)) (ss : List (Option ℕ)) → taken o ≡ Ok ss → (cs : List ℕ) × (o ≡ Some cs) × (ss ≡ padded cs)
taken_ok None ss e = let z : ◌≡◌ {A = ℕ} 0 1 = cc in absurd (omega arith)
taken_ok (Some cs) ss e = (cs, refl, cc)

module _ (s : State) (rs : List ℕ) where
  -- one root more
  pub slots_more : length rs ≤ 8 → (k c : ℕ) (ss : List (Option ℕ)) → k < length rs → slots_under s (take k rs) ≡ Ok ss → Ok c ≡ held_in s (get_or rs k 0) → slots_under s (take (k + 1) rs) ≡ Ok (set ss k (Some c))
  slots_more few k c ss h old held =
      let p = taken_ok (nodes_under s (take k rs)) ss old in
      let cs : List ℕ = p.0 in
      let long : length cs ≡ k = gathered_long (root_at s) (take k rs) cs p.1 ∙ length-take-le k rs (omega arith) in
      let at = held_ok s (get_or rs k 0) c held in
      let next : nodes_under s (take (k + 1) rs) ≡ Some (cs ++ c ∷ [])
      = ap (λ (l : List ℕ). nodes_under s l) (take_more rs k 0 h) ∙ gathered_push (root_at s) (take k rs) (get_or rs k 0) cs c p.1 at.1 in
      let rest : ℕ = 8 - length (cs ++ c ∷ []) in
      let room : 8 - length cs ≡ suc rest = omega (arith, long, length-append cs (c ∷ [])) in
      ap taken next
      ∙ ap (λ (l : List (Option ℕ)). Ok l)
      (sym (ap (λ (l : List (Option ℕ)). set l k (Some c)) p.2
      ∙ ap (λ (n : ℕ). set (present cs ++ replicate n None) k (Some c)) room
      ∙ ap (λ (n : ℕ). set (present cs ++ replicate (suc rest) None) n (Some c)) (sym long)
      ∙ padded_push cs c rest))

  -- a root that is empty
  pub slots_none : roots_exist rs ≡ true → (k : ℕ) (x : Refusal) → k < length rs → Err x ≡ held_in s (get_or rs k 0) → Err x ≡ slots_under s rs
  slots_none all k x h held =
      let low : ltb (get_or rs k 0) 32 ≡ true = All-get_or (λ r. ltb r 32 ≡ true) rs k 0 h (AllPass-from_list_all (λ r. ltb r 32) rs all) in
      let e = held_err s (get_or rs k 0) x low held in
      ap (λ (r : Refusal). Err r) e.0 ∙ sym (ap taken (gathered_none (root_at s) rs k 0 h e.1))

-- what an array sees of the children in its slots
padded_shapes : (m : Memory) (cs : List ℕ) (n : ℕ) → take (length cs) (map (shape_in m) (present cs ++ replicate n None)) ≡ shapes m cs
padded_shapes m [] n = refl
padded_shapes m (c ∷ cs) n = ap (λ (l : List Shape). shape_of (node_at m c) ∷ l) (padded_shapes m cs n)

-- the definition of the slots, by the test of what is in them, where nothing is refused before it
slots_by : (es : Encodings) (s : State) (root : ℕ) (f : Fields) (rs cs : List ℕ)
    → counted f rs ≡ true → (ltb root 32 && roots_exist (child_roots f rs)) ≡ true → nodes_under s (child_roots f rs) ≡ Some cs → root_at s root ≡ None → fields_known es f ≡ true
    → slots_for es s root f rs ≡ elim (slots_fit es f (shapes s.memory cs)) as (λ _. Result (List (Option ℕ)) Refusal) [ false ↦ Err Slots | true ↦ Ok (padded cs) ]
slots_by es s root f rs cs count range nodes empty known = rw (count, range, nodes, empty, known, slots_for) refl

-- the same, as the code finds it
pub slots_chosen : (ks : Kinds) (es : Encodings) → LawfulEncodings ks es → (s : State) (root : ℕ) (f : Fields) (rs : List ℕ) (target : Option ℕ) (ss : List (Option ℕ))
    → counted f rs ≡ true → Ok target ≡ root_in s root → roots_exist (child_roots f rs) ≡ true → Ok ss ≡ slots_under s (child_roots f rs) → is_some target ≡ false → fields_known es f ≡ true
    → elim (slots_fit es f (take f.arity (map (shape_in s.memory) ss))) as (λ _. Result (List (Option ℕ)) Refusal) [ false ↦ Err Slots | true ↦ Ok ss ] ≡ slots_for es s root f rs
slots_chosen ks es law s root f rs target ss count there all slots free known =
    let room : has_room f ≡ true = (known_is ks es law f known).room in
    let p = taken_ok (nodes_under s (child_roots f rs)) ss (sym slots) in
    let cs : List ℕ = p.0 in
    let t = root_ok s root target there in
    let range : (ltb root 32 && roots_exist (child_roots f rs)) ≡ true = and_from _ _ (lt-ltb root 32 t.0) all in
    let empty : root_at s root ≡ None = t.1 ∙ empty_by target free in
    let long : length cs ≡ f.arity
    = gathered_long (root_at s) (child_roots f rs) cs p.1 ∙ ap (λ (l : List ℕ). length l) (roots_all f rs room) ∙ counted_as f rs room count in
    let seen : take f.arity (map (shape_in s.memory) ss) ≡ shapes s.memory cs
    = ap (λ (l : List (Option ℕ)). take f.arity (map (shape_in s.memory) l)) p.2
    ∙ ap (λ (n : ℕ). take n (map (shape_in s.memory) (padded cs))) (sym long)
    ∙ padded_shapes s.memory cs (8 - length cs) in
    let test : List Shape → List (Option ℕ) → Result (List (Option ℕ)) Refusal = λ l o. elim (slots_fit es f l) [ false ↦ Err Slots | true ↦ Ok o ] in
    ap₂ test seen p.2 ∙ sym (slots_by es s root f rs cs count range p.1 empty known)
