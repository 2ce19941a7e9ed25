use Rattle.std.proofs.Common.{◌≡◌, ℕ, ◌<◌, List, length, set, Some, Ok, Err, Option, Result, sym, refl, ap, ◌∙◌, subst, arith}
use Rattle.std.proofs.lemmas.List.{length-set}
use Rattle.std.proofs.lemmas.Result.{err_from_is_err_and}
use Rattle.pool.specs.declared.node.Node.{Node}
use Rattle.pool.specs.declared.node.PoolFault.{PoolFault}
use Rattle.pool.specs.Memory.{Memory, count_at}
use Rattle.pool.specs.Counts.{names, times}
use Rattle.pool.specs.Inserting.{inserted, Inserted}
use Rattle.pool.specs.Seen.{memory_of}
use Rattle.pool.proofs.Naming.{names_long}
use Rattle.encodings.specs.Meaning.{Encodings}
use Rattle.planner.specs.Calls.{Said, refused}
use Rattle.planner.specs.Called.{State, placed}
use Rattle.planner.specs.Contract.{outcome}
use Rattle.planner.specs.Seen.{state_of, means_in}
use Rattle.planner.proofs.Invariant.{Ghosts, ghosts_of, ordered_of}
use Rattle.planner.proofs.Rooted.{filled_ordered}
use Rattle.planner.proofs.Assembling.{chosen, slots_used}
use Rattle.planner.proofs.Outcomes.{answered, assemble_by}
use Rattle.planner.proofs.planner.Planner.assemble.Goals as goal

pub returns-in_err-slots : goal.returns-in_err-slots
returns-in_err-slots g c =
    let s : State = state_of c.args.self.now in
    let p = err_from_is_err_and c.from_residual.result c.from_residual.ensures.1 in
    answered g.met.K.RowKinds.lawful g.met.E.EncodingSet.complete
    (ap (λ r. (outcome r, s)) p.1 ∙ ap (λ x. (refused x, s)) p.2 ∙ ap (assemble_by s c.args.root c.args.parts.fields) (sym c.in_err-slots.was ∙ c.slots_for.ensures))
    refl

pub insert-requires-clause-held : goal.insert-requires-clause-held
insert-requires-clause-held g c =
    let roots : List (Option ℕ) = c.args.self.now.roots in
    let long : length roots ≡ 32 = c.args.self.now.roots_long in
    (names roots, omega (arith, names_long roots, long), ordered_of c.args.self.now)

pub insert-requires-clause-used : goal.insert-requires-clause-used
insert-requires-clause-used g c =
    let s : State = state_of c.args.self.now in
    let es : Encodings = means_in g.K.RowKinds.kinds g.E.Encoding.means c.args.self.now.session in
    let x = chosen _ es (g.met.E.EncodingSet.complete _ _).lawful s c.args.root c.args.parts.fields c.args.parts.roots.now c.in_ok-slots.slots (sym c.slots_for.ensures ∙ c.in_ok-slots.was) in
    subst (λ (nd : Node). (k : ℕ) → 0 < times k (names nd.slots) → 0 < count_at s.memory.nodes k) (sym c.node.ensures)
    (slots_used es s c.args.root c.args.parts.fields c.args.parts.roots.now c.in_ok-slots.slots x (ordered_of c.args.self.now))

-- what an insertion with this result leaves
left : (m q : Memory) (nd : Node) (hs : List ℕ) (r x : Result ℕ PoolFault) → r ≡ x → Inserted m q nd hs r → Inserted m q nd hs x
left m q nd hs r x e i = subst (λ (y : Result ℕ PoolFault). Inserted m q nd hs y) e i

pub invariant_of-self : goal.invariant_of-self
invariant_of-self g c =
    let m : Memory = (state_of c.args.self.now).memory in
    let roots : List (Option ℕ) = c.args.self.now.roots in
    let ordered = ordered_of c.args.self.now in
    let same : memory_of c.insert.new.self ≡ m
    = (left m (memory_of c.insert.new.self) c.node.result (names roots) c.insert.result (Err c.in_err-node.field-0.0) c.in_err-node.was (c.insert.ensures.change (names roots) ordered)).0 in
    subst (λ (x : Memory). Ghosts x roots) (sym same) (ghosts_of m roots c.args.self.now.roots_long ordered)

pub returns-in_err-node : goal.returns-in_err-node
returns-in_err-node g c =
    let s : State = state_of c.args.self.now in
    let p = err_from_is_err_and c.from_residual-in_err-node.result c.from_residual-in_err-node.ensures.1 in
    answered g.met.K.RowKinds.lawful g.met.E.EncodingSet.complete
    (ap (λ (a : Said). (a, record { memory = memory_of c.insert.new.self; roots = s.roots })) (ap (λ r. outcome r) p.1 ∙ ap (λ x. refused x) p.2)
    ∙ ap (λ (r : Result ℕ PoolFault). placed s c.args.root (r, memory_of c.insert.new.self)) (sym c.in_err-node.was)
    ∙ ap (λ (b : Result ℕ PoolFault × Memory). placed s c.args.root b) c.insert.ensures.value
    ∙ ap (λ (nd : Node). placed s c.args.root (inserted s.memory nd)) c.node.ensures
    ∙ ap (assemble_by s c.args.root c.args.parts.fields) (sym c.in_ok-slots.was ∙ c.slots_for.ensures))
    refl

pub invariant_of-self-2 : goal.invariant_of-self-2
invariant_of-self-2 g c =
    let s : State = state_of c.args.self.now in
    let q : Memory = memory_of c.insert.new.self in
    let roots : List (Option ℕ) = c.args.self.now.roots in
    let ordered = ordered_of c.args.self.now in
    let long : length roots ≡ 32 = c.args.self.now.roots_long in
    let es : Encodings = means_in g.K.RowKinds.kinds g.E.Encoding.means c.args.self.now.session in
    let x = chosen _ es (g.met.E.EncodingSet.complete _ _).lawful s c.args.root c.args.parts.fields c.args.parts.roots.now c.in_ok-slots.slots (sym c.slots_for.ensures ∙ c.in_ok-slots.was) in
    let i = left s.memory q c.node.result (names roots) c.insert.result (Ok c.in_ok-node.node) c.in_ok-node.was (c.insert.ensures.change (names roots) ordered) in
    ghosts_of q (set roots c.args.root (Some c.in_ok-node.node)) (length-set roots c.args.root (Some c.in_ok-node.node) ∙ long)
    (filled_ordered s.memory roots ordered q c.args.root c.in_ok-node.node (omega (arith, x.low)) x.empty i.change.ordered)

pub returns : goal.returns
returns g c =
    let s : State = state_of c.args.self.now in
    answered g.met.K.RowKinds.lawful g.met.E.EncodingSet.complete
    (ap (λ (r : Result ℕ PoolFault). placed s c.args.root (r, memory_of c.insert.new.self)) (sym c.in_ok-node.was)
    ∙ ap (λ (b : Result ℕ PoolFault × Memory). placed s c.args.root b) c.insert.ensures.value
    ∙ ap (λ (nd : Node). placed s c.args.root (inserted s.memory nd)) c.node.ensures
    ∙ ap (assemble_by s c.args.root c.args.parts.fields) (sym c.in_ok-slots.was ∙ c.slots_for.ensures))
    refl
