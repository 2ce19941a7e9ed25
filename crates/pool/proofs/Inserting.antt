-- A node of its own for an array: what its insertion leaves to all who hold.
use Rattle.std.proofs.Common.{◌≡◌, ℕ, suc, ◌+◌, ◌≤◌, Bool, true, false, ltb, List, length, Some, None, Ok, Err, Option, Result, sym, refl, subst, ap₂, arith}
use Rattle.std.proofs.lemmas.Bool.{ltb-true, ltb-false}
use Rattle.pool.specs.declared.node.Node.{Node}
use Rattle.pool.specs.declared.node.PoolFault.{PoolFault}
use Rattle.pool.specs.declared.node.PoolFault.TheVariants.{Height, Nodes}
use Rattle.pool.specs.Memory.{Memory, with_count, with_slots, put_node}
use Rattle.pool.specs.Counts.{tallest}
use Rattle.pool.specs.Order.{Ordered}
use Rattle.pool.specs.Sharing.{retained, each_slot}
use Rattle.pool.specs.Finding.{lowest_free, LowestNode}
use Rattle.pool.specs.Inserting.{settled, inserted, InsertedAt, Inserted}
use Rattle.pool.proofs.Counted.{held_used}
use Rattle.pool.proofs.Copying.{Used, Fresh, joined, joined_is}
use Rattle.pool.proofs.Found.{lowest_free_is}

-- what is inserted, by the test of its height and the node that is found
inserted_by : Memory → Node → Bool → Option ℕ → Result ℕ PoolFault × Memory
inserted_by m nd b f =
    elim b [ true ↦ (Err Height, m) | false ↦ elim f [ None ↦ (Err Nodes, m) | Some i ↦ (Ok i, joined m (settled m nd) i) ] ]

module _ (m : Memory) (nd : Node) (hs : List ℕ) (o : Ordered m hs) (used : Used m.nodes nd.slots) (eight : length nd.slots ≡ 8) (start : nd.start ≡ 0) (run : nd.run ≡ 0) where
  inserted_at : tallest m.nodes nd.slots ≤ 31 → (i : ℕ) → LowestNode m.nodes (Some i) → InsertedAt m (joined m (settled m nd) i) nd hs i
  inserted_at low i lowest =
      let fresh : Fresh m (settled m nd)
      = record { used = used; no_run = run; start = omega (arith, start); one = refl; eight = eight; high = refl; low = omega (arith, low) } in
      let w = joined_is m hs (settled m nd) o fresh i lowest.0 lowest.1 in
      record {
        lowest = lowest;
        change = record { ordered = w.ordered; keeps = λ k h. w.others k (held_used m.nodes hs k o.counts h) };
        node = w.node;
        others = w.others;
        height = omega (arith, low);
      }

  pub inserted_is : Inserted m (inserted m nd).1 nd hs (inserted m nd).0
  unfolding inserted_by
  inserted_is = go (ltb 31 (tallest m.nodes nd.slots)) refl (lowest_free m.nodes 0) (lowest_free_is m.nodes)
    where
      go : (b : Bool) → ltb 31 (tallest m.nodes nd.slots) ≡ b → (f : Option ℕ) → LowestNode m.nodes f → Inserted m (inserted_by m nd b f).1 nd hs (inserted_by m nd b f).0
      go true e f h = (refl, omega (arith, ltb-true 31 (tallest m.nodes nd.slots) e))
      go false e None h = (refl, (omega (arith, ltb-false 31 (tallest m.nodes nd.slots) e), h))
      go false e (Some i) h = inserted_at (ltb-false 31 (tallest m.nodes nd.slots) e) i h

  -- the code: h is the height that it found, and b what it retained
  pub code_inserted : (h i : ℕ) (b : Memory) → h ≡ tallest m.nodes nd.slots → h ≤ 31 → LowestNode m.nodes (Some i) → b ≡ each_slot retained m nd.slots
      → InsertedAt m (put_node b i (with_count (with_slots nd nd.slots (h + 1)) 1)) nd hs i
  code_inserted h i b tall low lowest is =
      let high : suc (tallest m.nodes nd.slots) ≡ h + 1 = omega (arith, tall) in
      subst (λ (q : Memory). InsertedAt m q nd hs i)
      (ap₂ (λ (x : Memory) (y : ℕ). put_node x i (with_count (with_slots nd nd.slots y) 1)) (sym is) high)
      (inserted_at (omega (arith, tall, low)) i lowest)
