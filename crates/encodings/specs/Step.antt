-- What one step of an array answers, and what it owes.
use Rattle.std.specs.Prelude.{◌≡◌, ℕ, ◌+◌, ◌<◌, ◌≤◌, ◌⊎◌, Bool, true, false, not, ◌&&◌, List, [], ◌∷◌, ◌++◌, Some, None, Ok, Err, Option, Result, ◌==◌, ◌≢◌, nat_lt, slice_set}
use Rattle.rows.specs.declared.row.Row.{Row}
use Rattle.rows.specs.Kind.{Kinds}
use Rattle.pool.specs.declared.node.Node.{Node}
use Rattle.pool.specs.declared.node.PoolFault.TheVariants.{Height, Nodes, Words}
use Rattle.pool.specs.Memory.{Memory, node_at, height_at, start_at, run_at}
use Rattle.pool.specs.Counts.{Exact}
use Rattle.pool.specs.Order.{Ordered, Change}
use Rattle.pool.specs.Finding.{find_run, free_nodes}
use Rattle.pool.specs.Slots.{slot_at}
use Rattle.encodings.specs.declared.step.ExecutionStep.{ExecutionStep}
use Rattle.encodings.specs.declared.step.ExecutionStep.TheVariants.{ExecuteSlot, AppendChild, Done}
use Rattle.encodings.specs.declared.step.StepFault.{StepFault}
use Rattle.encodings.specs.declared.step.StepFault.TheVariants.{Pool, NoRows}
use Rattle.encodings.specs.Meaning.{Encodings, LawfulSet, Within, no_gap}
use Rattle.encodings.specs.Rows.{slots_of, flat_rows, rows_of, rest_by, owed_by, Carries, WholeAt, AllWhole, StandsAt, ChildrenWhole}

-- What a step needs of the pool: so many free nodes, so many words in one run, and the height of its result.
pub record Need : Type 0 where
  pub nodes : ℕ
  pub words : ℕ
  pub height : ℕ

-- the steps of a set of encodings: what the step of the array at a node needs, and what it answers and leaves
pub record Steps : Type 0 where
  pub need : Memory → ℕ → Need
  pub stepped : Memory → ℕ → Result ExecutionStep StepFault × Memory

-- every child that stands in the slots is Flat
abbrev pub all_flat : Memory → List (Option ℕ) → Bool
all_flat m [] = true
all_flat m (None ∷ ss) = all_flat m ss
all_flat m (Some c ∷ ss) = (node_at m c).encoding == 1 && all_flat m ss

-- The refusal of the step of i, which needs n and has these rows or this rest, if it is refused: too high a result, too
-- few free nodes, no such run of words, and last, with every child Flat, no rows, not even none.
abbrev pub refusal : Need → Memory → ℕ → Option (List Row) → Option StepFault
refusal n m i rest =
    elim (nat_lt 32 n.height) [
      | true ↦ Some (Pool Height)
      | false ↦ elim (nat_lt (free_nodes m.nodes) n.nodes) [
        | true ↦ Some (Pool Nodes)
        | false ↦ elim (find_run m n.words) [
          | None ↦ Some (Pool Words)
          | Some s ↦ elim (all_flat m (slots_of (node_at m i))) [
            | false ↦ None
            | true ↦ elim rest [ None ↦ Some NoRows | Some r ↦ None ]
          ]
        ]
      ]
    ]

abbrev pub fault : {A : Type 0} → Result A StepFault → Option StepFault
fault (Ok a) = None
fault (Err e) = Some e

-- What a step may count on: a pool in order, in which the caller holds i and the others hold hs; i is of the set, and
-- fits with what its slots have and some children in the absent ones; what they have is whole, and so is i, if it is Flat.
pub record Steppable (ks : Kinds) (es own : Encodings) (m : Memory) (hs : List ℕ) (i : ℕ) : Type 0 where
  pub ordered : Ordered m (i ∷ hs)
  pub mine : own.has (node_at m i).encoding ≡ true
  pub stands : StandsAt es m i
  pub children : ChildrenWhole ks es m i
  pub flat : (node_at m i).encoding ≡ 1 → WholeAt ks es m i

-- ---- the answers
-- slot x is asked for: it is present, and nothing has changed
pub record Executes (m q : Memory) (i x : ℕ) : Type 0 where
  pub child : ℕ
  pub present : slot_at m i x ≡ Some child
  pub same : q ≡ m

-- Slot x is appended: it is present, Flat and of the array's kind, its rows begin the rest, and the rest without it is
-- what follows; always so in length, rows or not. Nothing has changed.
pub record Appends (ks : Kinds) (es : Encodings) (m q : Memory) (i x : ℕ) : Type 0 where
  pub child : ℕ
  pub present : slot_at m i x ≡ Some child
  pub flat : (node_at m child).encoding ≡ 1
  pub kind : (node_at m child).kind ≡ (node_at m i).kind
  pub rows : (r : List Row) → rows_of ks es m i ≡ Some r
      → (later : List Row) × (rest_by ks es m i (slice_set (slots_of (node_at m i)) x None) ≡ Some later) × (r ≡ flat_rows ks m child ++ later)
  pub length : owed_by es m i (slots_of (node_at m i)) ≡ (node_at m child).len + owed_by es m i (slice_set (slots_of (node_at m i)) x None)
  pub same : q ≡ m

-- how many nodes are in use in the second list and not in the first
abbrev pub fresh : List Node → List Node → ℕ
fresh [] ys = 0
fresh (x ∷ xs) [] = 0
fresh (x ∷ xs) (y ∷ ys) = elim (x.count == 0 && not (y.count == 0)) [ true ↦ 1 + fresh xs ys | false ↦ fresh xs ys ]

-- k has the run that it had
pub record Stood (m q : Memory) (k : ℕ) : Type 0 where
  pub same_start : start_at q.nodes k ≡ start_at m.nodes k
  pub same_run : run_at q.nodes k ≡ run_at m.nodes k

-- k has a run of at most n words, at the lowest start that there was
pub record Lowest (n : ℕ) (m q : Memory) (k : ℕ) : Type 0 where
  pub few : run_at q.nodes k ≤ n
  pub lowest : find_run m (run_at q.nodes k) ≡ Some (start_at q.nodes k)

-- what was made keeps within the need: so many nodes, one run of so many words at the lowest start, and no higher an answer
pub record InNeed (n : Need) (m q : Memory) (j : ℕ) : Type 0 where
  pub nodes : fresh m.nodes q.nodes ≤ n.nodes
  pub words : (k : ℕ) → 0 < run_at q.nodes k → Stood m q k ⊎ Lowest n.words m q k
  pub one_run : (k l : ℕ) → (k ≢ l) → 0 < run_at q.nodes k → 0 < run_at q.nodes l → Stood m q k ⊎ Stood m q l
  pub height : height_at q.nodes j ≤ n.height

-- i was done before, slot by slot: a slot is absent, and nothing is owed
pub record DoneGap (ks : Kinds) (es : Encodings) (m : Memory) (i : ℕ) : Type 0 where
  pub gap : no_gap (slots_of (node_at m i)) ≡ false
  pub empty : rows_of ks es m i ≡ Some []

-- i had every slot, and j is whole, with all that it reaches, and of i's kind, length and, if any, rows
pub record DoneWhole (ks : Kinds) (es : Encodings) (m q : Memory) (i j : ℕ) : Type 0 where
  pub whole : no_gap (slots_of (node_at m i)) ≡ true
  pub all_whole : AllWhole ks es q j
  pub same_kind : (node_at q j).kind ≡ (node_at m i).kind
  pub same_len : (node_at q j).len ≡ (node_at m i).len
  pub carries : Carries (rows_of ks es m i) (rows_of ks es q j)

-- i is done, and its holder holds j now. What the others hold is unchanged, counts are true, and a node is in use
-- exactly when a holder reaches it, so that nothing is left of what was made.
pub record Finishes (ks : Kinds) (es : Encodings) (n : Need) (m : Memory) (hs : List ℕ) (i j : ℕ) (q : Memory) : Type 0 where
  pub change : Change m q (j ∷ hs) hs
  pub nothing_left : Exact q.nodes (j ∷ hs)
  pub in_need : InNeed n m q j
  pub done : DoneGap ks es m i ⊎ DoneWhole ks es m q i j

abbrev pub StepAnswer : Kinds → Encodings → Need → Memory → List ℕ → ℕ → Result ExecutionStep StepFault → Memory → Type 0
StepAnswer ks es n m hs i (Err e) q = q ≡ m
StepAnswer ks es n m hs i (Ok (ExecuteSlot x t)) q = Executes m q i x
StepAnswer ks es n m hs i (Ok (AppendChild x)) q = Appends ks es m q i x
StepAnswer ks es n m hs i (Ok (Done j)) q = Finishes ks es n m hs i j q

-- the step of i, which needs n, answers a and leaves q
pub record StepKeeps (ks : Kinds) (es : Encodings) (n : Need) (m : Memory) (hs : List ℕ) (i : ℕ) (a : Result ExecutionStep StepFault) (q : Memory) : Type 0 where
  pub refusals : fault a ≡ refusal n m i (rows_of ks es m i)
  pub answer : StepAnswer ks es n m hs i a q

-- What a set of encodings shows of its steps, it shows within every lawful set that has it, so that it holds among
-- children of encodings that it has never heard of.
abbrev pub LawfulSteps : Kinds → Encodings → Steps → Type 0
LawfulSteps ks own st =
    (es : Encodings) → LawfulSet ks es → Within own es → (m : Memory) (hs : List ℕ) (i : ℕ) → Steppable ks es own m hs i
    → StepKeeps ks es (st.need m i) m hs i (st.stepped m i).0 (st.stepped m i).1
