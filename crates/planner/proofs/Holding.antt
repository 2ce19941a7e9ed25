-- What holders reach before and after a change.
use Rattle.std.proofs.Common.{ℕ, List}
use Rattle.rows.specs.Kind.{Kinds}
use Rattle.pool.specs.declared.node.Node.{Node}
use Rattle.pool.specs.Memory.{Memory}
use Rattle.pool.specs.Counts.{Reaches, Held}
use Rattle.pool.specs.Order.{Keeps}
use Rattle.encodings.specs.Meaning.{Encodings}
use Rattle.encodings.specs.Rows.{WholeAt}
use Rattle.encodings.proofs.Keeping.{Kept, reaches_on, whole_kept}
use Rattle.encodings.proofs.Answering.{reaches_back}

-- what is held stays held along slots
pub held_on : (ns : List Node) (hs : List ℕ) (k j : ℕ) → Held ns hs k → Reaches ns k j → Held ns hs j
held_on ns hs k j h r = (h.0, h.1, reaches_on h.2 r)

module _ (m q : Memory) (hs : List ℕ) (keeps : Keeps m q hs) where
  pub held_back : (k : ℕ) → Held q.nodes hs k → Held m.nodes hs k
  held_back k h = (h.0, h.1, reaches_back m q hs keeps h.0 k h.1 h.2)

  pub held_kept : (k : ℕ) → Held m.nodes hs k → Kept m q k
  held_kept k h j r = keeps j (held_on m.nodes hs k j h r)

  -- whole arrays that are kept stay whole
  pub kept_whole : (ks : Kinds) (es : Encodings) → ((k : ℕ) → Held m.nodes hs k → WholeAt ks es m k) → (k : ℕ) → Held q.nodes hs k → WholeAt ks es q k
  kept_whole ks es whole k h = let b = held_back k h in whole_kept ks es m q k (held_kept k b) (whole k b)
