-- A node of its own for an array.
use Rattle.std.specs.Prelude.{◌≡◌, ℕ, suc, ◌<◌, ◌≤◌, true, false, List, ◌∷◌, Some, None, Ok, Err, Result, nat_lt}
use Rattle.pool.specs.declared.node.Node.{Node}
use Rattle.pool.specs.declared.node.PoolFault.{PoolFault}
use Rattle.pool.specs.declared.node.PoolFault.TheVariants.{Height, Nodes, Words}
use Rattle.pool.specs.Memory.{Memory, node_at, count_at, with_count, with_slots, put_node}
use Rattle.pool.specs.Counts.{tallest}
use Rattle.pool.specs.Order.{SameAt, Change}
use Rattle.pool.specs.Sharing.{retained, each_slot}
use Rattle.pool.specs.Finding.{lowest_free, LowestNode}

-- the node with the height that its slots give it, held once
abbrev pub settled : Memory → Node → Node
settled m nd = with_count (with_slots nd nd.slots (suc (tallest m.nodes nd.slots))) 1

-- a node of its own for an array, whose children have one holder more each; too high an array is refused before a node is sought
abbrev pub inserted : Memory → Node → Result ℕ PoolFault × Memory
inserted m nd =
    elim (nat_lt 31 (tallest m.nodes nd.slots)) [
      | true ↦ (Err Height, m)
      | false ↦ elim (lowest_free m.nodes 0) [
        | None ↦ (Err Nodes, m)
        | Some i ↦ (Ok i, put_node (each_slot retained m nd.slots) i (settled m nd))
      ]
    ]

-- what an array's insertion leaves to the holders
pub record InsertedAt (m q : Memory) (nd : Node) (hs : List ℕ) (i : ℕ) : Type 0 where
  pub lowest : LowestNode m.nodes (Some i)
  pub change : Change m q (i ∷ hs) hs
  pub node : node_at q i ≡ settled m nd
  -- all that was in use is as it was
  pub others : (k : ℕ) → 0 < count_at m.nodes k → SameAt m q k
  pub height : suc (tallest m.nodes nd.slots) ≤ 32

abbrev pub InsertRefused : Memory → Node → PoolFault → Type 0
InsertRefused m nd Height = 32 < suc (tallest m.nodes nd.slots)
InsertRefused m nd Nodes = (suc (tallest m.nodes nd.slots) ≤ 32) × LowestNode m.nodes None
InsertRefused m nd Words = ⊥

abbrev pub Inserted : Memory → Memory → Node → List ℕ → Result ℕ PoolFault → Type 0
Inserted m q nd hs (Ok i) = InsertedAt m q nd hs i
Inserted m q nd hs (Err e) = (q ≡ m) × InsertRefused m nd e
