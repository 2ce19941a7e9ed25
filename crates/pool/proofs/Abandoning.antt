-- An open builder that is released leaves the memory as it was before it was opened.
use Rattle.std.proofs.Common.{◌≡◌, ℕ, ◌<◌, List, ◌∷◌, length, set, replicate, Ok, Option, sym, refl, ap, ◌∙◌, subst, ap₂}
use Rattle.std.proofs.lemmas.List.{get_or-set_same, set-set, set-get_or}
use Rattle.rows.specs.declared.row.Row.{Row}
use Rattle.rows.specs.Kind.{Kinds, LawfulKind}
use Rattle.pool.specs.declared.node.Node.{Node}
use Rattle.pool.specs.Memory.{Memory, blank, free_node, no_slots, node_at, count_at, height_at, slots_at, start_at, run_at, overwritten}
use Rattle.pool.specs.Order.{Ordered, Change}
use Rattle.pool.specs.Sharing.{vacated, each_slot, released, release}
use Rattle.pool.specs.Finding.{Room}
use Rattle.pool.specs.Building.{open_node, opened, append_rows}
use Rattle.pool.proofs.Found.{found_room}
use Rattle.pool.proofs.Placing.{placed, placed_change, over_over, over_same}
use Rattle.pool.proofs.Releasing.{Sound, ordered_sound, released_last}
use Rattle.pool.proofs.Building.{room_clear, run_built, built_long, appended_is}
use Rattle.pool.proofs.Filling.{Opens, opens}

-- the release of a node with no slots whose run was placed where no run was
placed_released : (m : Memory) (hs : List ℕ) (i s w : ℕ) (nd : Node) (xs : List ℕ) → Ordered m hs → i < length m.nodes → count_at m.nodes i ≡ 0 → Room m w s
    → nd.count ≡ 1 → nd.slots ≡ no_slots → nd.start ≡ s → nd.run ≡ w → length xs ≡ w → release (placed m i s w nd xs) i ≡ m
placed_released m hs i s w nd xs o inside free room one bare at long whole =
    let p : Memory = placed m i s w nd xs in
    let e : node_at p i ≡ nd = get_or-set_same m.nodes i nd blank inside in
    let start : start_at p.nodes i ≡ s = ap (λ (x : Node). x.start) e ∙ at in
    let run : run_at p.nodes i ≡ w = ap (λ (x : Node). x.run) e ∙ long in
    let slots : slots_at p.nodes i ≡ no_slots = ap (λ (x : Node). x.slots) e ∙ bare in
    let nodes : set p.nodes i free_node ≡ m.nodes
    = set-set m.nodes i nd free_node ∙ ap (λ (x : Node). set m.nodes i x) (sym (o.freed i inside free)) ∙ set-get_or m.nodes i blank in
    let words : overwritten p.words (start_at p.nodes i) (run_at p.nodes i) (replicate (run_at p.nodes i) 0) ≡ m.words
    = ap₂ (λ (a n : ℕ). overwritten p.words a n (replicate n 0)) start run
    ∙ over_over m.words s w xs room.inside whole (replicate w 0)
    ∙ ap (λ (ys : List ℕ). overwritten m.words s w ys) (sym (room_clear m hs w s o room))
    ∙ over_same m.words s w in
    released_last (height_at p.nodes i) p i (ap (λ (x : Node). x.count) e ∙ one)
    ∙ ap (λ (ss : List (Option ℕ)). each_slot (released (height_at p.nodes i)) (vacated p i) ss) slots
    ∙ ap₂ (λ (ns : List Node) (ws : List ℕ). record { nodes = ns; words = ws }) nodes words

-- What is left of an open builder with these rows in it: what others hold is as it was, it can be released, and then
-- the memory is as it was. The rows need not be taken, nor fit.
module _ (ks : Kinds) (m q : Memory) (hs : List ℕ) (kind n i : ℕ) (rs : List Row) (law : LawfulKind (ks.kind kind)) (o : Ordered m hs) (e : (Ok i, q) ≡ opened m kind n ((ks.kind kind).words n)) where
  at : Opens m q kind n ((ks.kind kind).words n) i
  at = opens m q kind n ((ks.kind kind).words n) i e

  room : Room m ((ks.kind kind).words n) at.start
  room = found_room m ((ks.kind kind).words n) at.start at.sought

  run : List ℕ
  run = run_built ks m hs kind n rs law o

  run_long : length run ≡ (ks.kind kind).words n
  unfolding run
  run_long = built_long ks m hs kind n rs law o i at.start at.lowest.0 at.lowest.1 at.sought

  filled_is : append_rows ks q i 0 rs ≡ placed m i at.start ((ks.kind kind).words n) (open_node kind n at.start ((ks.kind kind).words n)) run
  unfolding run
  filled_is =
      ap (λ (x : Memory). append_rows ks x i 0 rs) at.after
      ∙ appended_is ks m hs kind n rs law o i at.start at.lowest.0 at.lowest.1 at.sought

  pub builder_change : Change m (append_rows ks q i 0 rs) (i ∷ hs) hs
  builder_change =
      let w : ℕ = (ks.kind kind).words n in
      subst (λ (x : Memory). Change m x (i ∷ hs) hs) (sym filled_is)
      (placed_change m hs i at.start w (open_node kind n at.start w) run o at.lowest.0 at.lowest.1 room refl refl refl refl refl run_long)

  -- what its release requires
  pub builder_owed : Sound (append_rows ks q i 0 rs) (i ∷ hs)
  builder_owed = ordered_sound (append_rows ks q i 0 rs) (i ∷ hs) builder_change.ordered

  pub abandoned : release (append_rows ks q i 0 rs) i ≡ m
  abandoned =
      let w : ℕ = (ks.kind kind).words n in
      ap (λ (x : Memory). release x i) filled_is
      ∙ placed_released m hs i at.start w (open_node kind n at.start w) run o at.lowest.0 at.lowest.1 room refl refl refl refl run_long
