use Rattle.std.proofs.Common.{ℕ, true, false, List, Ok, Err, sym, refl, ap, ◌∙◌}
use Rattle.std.proofs.lemmas.Bool.{eq-eqb, ne_eqb}
use Rattle.std.proofs.lemmas.Result.{err_from_is_err_and}
use Rattle.pool.specs.Memory.{node_at, start_at}
use Rattle.planner.specs.Calls.{Said, rows, refused}
use Rattle.planner.specs.Called.{State}
use Rattle.planner.specs.Contract.{read_outcome}
use Rattle.planner.specs.Seen.{state_of}
use Rattle.planner.proofs.Outcomes.{answered, read_is, handed_is}
use Rattle.planner.proofs.planner.Planner.read.Goals as goal

pub returns-in_err-n : goal.returns-in_err-n
returns-in_err-n g c =
    let s : State = state_of c.args.self.now in
    let p = err_from_is_err_and c.from_residual.result c.from_residual.ensures.1 in
    answered g.met.K.RowKinds.lawful g.met.E.EncodingSet.complete
    (ap (λ (a : Said). (a, s)) (ap (λ r. read_outcome r) p.1 ∙ ap (λ x. refused x) p.2 ∙ read_is s c.args.root (Err c.in_err-n.field-0.0) (sym c.in_err-n.was ∙ c.held.ensures)))
    refl

pub returns-then-node-ne-FLAT : goal.returns-then-node-ne-FLAT
returns-then-node-ne-FLAT g c =
    let s : State = state_of c.args.self.now in
    let k : ℕ = c.in_ok-n.n in
    answered g.met.K.RowKinds.lawful g.met.E.EncodingSet.complete
    (ap (λ (a : Said). (a, s)) (handed_is s.memory k false (ne_eqb (node_at s.memory k).encoding 1 c.if-node-ne-FLAT.true) ∙ read_is s c.args.root (Ok k) (sym c.in_ok-n.was ∙ c.held.ensures)))
    refl

pub returns : goal.returns
returns g c =
    let s : State = state_of c.args.self.now in
    let k : ℕ = c.in_ok-n.n in
    let nd = node_at s.memory k in
    answered g.met.K.RowKinds.lawful g.met.E.EncodingSet.complete
    (ap (λ (a : Said). (a, s)) (
    ap (λ (x : ℕ). rows nd.kind nd.len x c.read-place.result.1.now) c.read-place.ensures.place
    ∙ ap (λ (x : List ℕ). rows nd.kind nd.len (start_at s.memory.nodes k) x) c.read-place.ensures.words
    ∙ handed_is s.memory k true (eq-eqb nd.encoding 1 c.if-node-ne-FLAT.false) ∙ read_is s c.args.root (Ok k) (sym c.in_ok-n.was ∙ c.held.ensures)))
    refl
