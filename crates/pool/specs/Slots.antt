-- Slots taken and put, with the parent copied where it is shared.
use Rattle.std.specs.Prelude.{◌≡◌, ℕ, suc, ◌-◌, ◌<◌, ◌≤◌, true, false, List, ◌∷◌, Some, None, Ok, Err, Option, Result, ◌==◌, ◌≢◌, nat_lt, slice_index_or, slice_set}
use Rattle.std.specs.Option.{unwrap_or}
use Rattle.pool.specs.declared.node.Node.{Node}
use Rattle.pool.specs.declared.node.PoolFault.{PoolFault}
use Rattle.pool.specs.declared.node.PoolFault.TheVariants.{Height, Nodes, Words}
use Rattle.pool.specs.Memory.{Memory, node_at, count_at, slots_at, with_count, with_slots, put_node}
use Rattle.pool.specs.Counts.{names, tallest}
use Rattle.pool.specs.Order.{Ordered, SameAt, Keeps}
use Rattle.pool.specs.Sharing.{recounted, retained, each_slot}
use Rattle.pool.specs.Finding.{lowest_free, LowestNode}

-- The parent for a holder who is to change it: itself where its count is 1; else it stays, with one holder less,
-- and a copy at the lowest free node takes its part.
abbrev pub owned : Memory → ℕ → Result ℕ PoolFault × Memory
owned m p =
    elim (count_at m.nodes p == 1) [
      | true ↦ (Ok p, m)
      | false ↦ elim (lowest_free m.nodes 0) [
        | None ↦ (Err Nodes, m)
        | Some i ↦ (Ok i, put_node (each_slot retained (recounted m p (count_at m.nodes p - 1)) (slots_at m.nodes p)) i (with_count (node_at m p) 1))
      ]
    ]

-- p with these slots, at the height that they give
abbrev pub reslotted : Memory → ℕ → List (Option ℕ) → Memory
reslotted m p ss = put_node m p (with_slots (node_at m p) ss (suc (tallest m.nodes ss)))

abbrev pub slot_at : Memory → ℕ → ℕ → Option ℕ
slot_at m p j = slice_index_or (slots_at m.nodes p) j None

-- the parent with its slot j absent, together with the child that was there
abbrev pub slot_taken : Memory → ℕ → ℕ → Result (ℕ × ℕ) PoolFault × Memory
slot_taken m p j =
    let o = owned m p in
    elim o.0 [
      | Err e ↦ (Err e, o.1)
      | Ok i ↦ (Ok (i, unwrap_or (slot_at m p j) 0), reslotted o.1 i (slice_set (slots_at o.1.nodes i) j None))
    ]

-- the parent with c, which the caller held, in its slot j; too high a parent is refused before a node is sought
abbrev pub slot_put : Memory → ℕ → ℕ → ℕ → Result ℕ PoolFault × Memory
slot_put m p j c =
    elim (nat_lt 31 (tallest m.nodes (slice_set (slots_at m.nodes p) j (Some c)))) [
      | true ↦ (Err Height, m)
      | false ↦
          let o = owned m p in
          elim o.0 [ Err e ↦ (Err e, o.1) | Ok i ↦ (Ok i, reslotted o.1 i (slice_set (slots_at o.1.nodes i) j (Some c))) ]
    ]

-- p's node with these slots, at their exact height, held once
abbrev pub slotted : Memory → ℕ → List (Option ℕ) → Node
slotted m p ss = with_count (with_slots (node_at m p) ss (suc (tallest m.nodes ss))) 1

-- i takes p's part in q, with these slots: it is p where nobody else held p, and else the lowest free node
pub record Stands (m q : Memory) (p : ℕ) (ss : List (Option ℕ)) (i : ℕ) : Type 0 where
  pub node : node_at q i ≡ slotted m p ss
  pub own : count_at m.nodes p ≡ 1 → i ≡ p
  pub copy : 1 < count_at m.nodes p → LowestNode m.nodes (Some i)
  -- all else that was in use is as it was
  pub others : (k : ℕ) → 0 < count_at m.nodes k → (k ≢ i) → SameAt m q k
  -- and so is all that p's slots reach
  pub under : Keeps m q (names (slots_at m.nodes p))

-- p is shared, and no node is left for a copy
pub record Crowded (m : Memory) (p : ℕ) : Type 0 where
  pub shared : 1 < count_at m.nodes p
  pub full : LowestNode m.nodes None

-- what a slot's taking leaves to the other holders
pub record SlotTaken (m q : Memory) (p j : ℕ) (hs : List ℕ) (i c : ℕ) : Type 0 where
  pub child : slot_at m p j ≡ Some c
  pub ordered : Ordered q (i ∷ (c ∷ hs))
  pub keeps : Keeps m q hs
  pub stands : Stands m q p (slice_set (slots_at m.nodes p) j None) i

abbrev pub Taken : Memory → Memory → ℕ → ℕ → List ℕ → Result (ℕ × ℕ) PoolFault → Type 0
Taken m q p j hs (Ok x) = SlotTaken m q p j hs x.0 x.1
Taken m q p j hs (Err e) = (e ≡ Nodes) × (q ≡ m) × Crowded m p

-- what a slot's putting leaves to the other holders
pub record SlotPut (m q : Memory) (p j c : ℕ) (hs : List ℕ) (i : ℕ) : Type 0 where
  pub ordered : Ordered q (i ∷ hs)
  pub keeps : Keeps m q (c ∷ hs)
  pub stands : Stands m q p (slice_set (slots_at m.nodes p) j (Some c)) i
  pub height : suc (tallest m.nodes (slice_set (slots_at m.nodes p) j (Some c))) ≤ 32

abbrev pub PutRefused : Memory → ℕ → ℕ → ℕ → PoolFault → Type 0
PutRefused m p j c Height = 32 < suc (tallest m.nodes (slice_set (slots_at m.nodes p) j (Some c)))
PutRefused m p j c Nodes = (suc (tallest m.nodes (slice_set (slots_at m.nodes p) j (Some c))) ≤ 32) × Crowded m p
PutRefused m p j c Words = ⊥

abbrev pub Put : Memory → Memory → ℕ → ℕ → ℕ → List ℕ → Result ℕ PoolFault → Type 0
Put m q p j c hs (Ok i) = SlotPut m q p j c hs i
Put m q p j c hs (Err e) = (q ≡ m) × PutRefused m p j c e
