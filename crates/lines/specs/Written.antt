-- What an answer is written as.
use Rattle.std.specs.Prelude.{ℕ, ◌/◌, ◌%◌, ◌≤◌, List, [], ◌∷◌}
use Rattle.std.specs.List.{flat_map}
use Rattle.rows.specs.Kind as kinds
use Rattle.rows.specs.Kind.{Kinds}
use Rattle.pool.specs.declared.node.PoolFault.{PoolFault}
use Rattle.pool.specs.declared.node.PoolFault.TheVariants.{Height, Nodes, Words}
use Rattle.planner.specs.declared.call.Refusal.{Refusal}
use Rattle.planner.specs.declared.call.Refusal.TheVariants.{Line, RootRange, RootEmpty, RootTaken, Field, Slots, Pool, NotFlat}
use Rattle.planner.specs.Calls.{Said, done, rows, refused}
use Rattle.lines.specs.Text.{spelled}

abbrev pub pool_number : PoolFault → ℕ
pool_number Height = 7
pool_number Nodes = 8
pool_number Words = 9

-- the number of a refusal
abbrev pub number : Refusal → ℕ
number Line = 1
number RootRange = 2
number RootEmpty = 3
number RootTaken = 4
number Field = 5
number Slots = 6
number (Pool fault) = pool_number fault
number NotFlat = 15

-- the layer that refuses: 0 the line, 1 the pool
abbrev pub layer : Refusal → ℕ
layer Line = 0
layer RootRange = 0
layer RootEmpty = 0
layer RootTaken = 0
layer Field = 0
layer Slots = 0
layer (Pool fault) = 1
layer NotFlat = 0

-- the bytes of an answer
abbrev pub bytes_of : Kinds → Said → List ℕ
bytes_of ks done = 0 ∷ []
bytes_of ks (rows kind n place words) = 0 ∷ kind ∷ n / 256 ∷ n % 256 ∷ flat_map (ks.kind kind).written (kinds.rows (ks.kind kind) n words)
bytes_of ks (refused e) = number e ∷ layer e ∷ []

-- the digits of an answer
abbrev pub written : Kinds → Said → List ℕ
written ks a = spelled (bytes_of ks a)

-- an answer of at most 1,024 rows
abbrev pub Short : Said → Type 0
Short done = Unit {0}
Short (rows kind n place words) = n ≤ 1024
Short (refused e) = Unit {0}
