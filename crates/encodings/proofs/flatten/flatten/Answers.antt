use Rattle.std.proofs.Common.{ℕ, suc, true, false, ◌∷◌, Ok, Err, Result, sym, ap, ap₂, ◌∙◌, arith}
use Rattle.std.proofs.lemmas.Bool.{not-false}
use Rattle.std.proofs.lemmas.Result.{err_from_is_err_and}
use Rattle.rows.specs.Kind.{Kinds}
use Rattle.pool.specs.Memory.{Memory, height_at}
use Rattle.pool.specs.Seen.{memory_of}
use Rattle.pool.proofs.Counted.{in_range, named_used, owed_used}
use Rattle.encodings.specs.declared.step.ExecutionStep.{ExecutionStep}
use Rattle.encodings.specs.declared.step.StepFault.{StepFault}
use Rattle.encodings.proofs.Fillings.{asks, asks_none, flat_there, flattened_refused, filling, open_sound, open_inside, done_sound, given_up, done}
use Rattle.encodings.proofs.flatten.flatten.Goals as goal

pub first_encoded-requires : goal.first_encoded-requires
first_encoded-requires g c n h =
    let m : Memory = memory_of c.args.pool.now in
    let held = c.requires.held in
    in_range m.nodes n (named_used m.nodes (c.args.array ∷ held.0) held.2.counts c.args.array n (owed_used m.nodes c.args.array held.0 held.2.counts) h)

pub returns-in-Some : goal.returns-in-Some
returns-in-Some g c = asks (g.K.RowKinds.kinds c.args.kinds.now) c.requires.stands c.in-Some.slot c.in-Some.ensures

pub returns-then-has_gap : goal.returns-then-has_gap
returns-then-has_gap g c = asks_none (g.K.RowKinds.kinds c.args.kinds.now) c.requires.stands true c.in_default.ensures c.if-has_gap.ensures

pub returns-in_err-open_builder : goal.returns-in_err-open_builder
returns-in_err-open_builder g c =
    let ks : Kinds = g.K.RowKinds.kinds c.args.kinds.now in
    let q : Memory = memory_of c.open_builder.new.self in
    let p = err_from_is_err_and c.from_residual.result c.from_residual.ensures.1 in
    ap (λ (r : Result ExecutionStep StepFault). (r, q)) p.1
    ∙ ap (λ (x : StepFault). (Err x, q)) p.2
    ∙ flattened_refused ks (memory_of c.args.pool.now) q c.args.array _ c.in_err-open_builder.field-0.0 c.in_err-open_builder.ensures
    ∙ asks_none ks c.requires.stands false c.in_default.ensures c.if-has_gap.ensures

pub append_to_builder-requires-clause-filling : goal.append_to_builder-requires-clause-filling
append_to_builder-requires-clause-filling g c =
    let law = g.met.K.RowKinds.lawful c.args.kinds.now in
    filling law c.requires.held.2 c.requires.stands c.in_ok-open_builder.ensures (not-false _ (sym c.if-has_gap.ensures))
    (flat_there (g.K.RowKinds.kinds c.args.kinds.now) c.requires.stands c.in_default.ensures)

pub release-requires : goal.release-requires
release-requires g c =
    let law = g.met.K.RowKinds.lawful c.args.kinds.now in
    let f = c.in-Err.ensures.filled in
    let s = open_sound law c.requires.held.2 c.requires.stands c.in_ok-open_builder.ensures c.in-Err.ensures.node f.2.0 f.2.1 in
    record { owed = (c.args.array ∷ c.requires.held.0, s.counts); falling = s.falling; within = s.within }

pub returns-in-Err : goal.returns-in-Err
returns-in-Err g c =
    let law = g.met.K.RowKinds.lawful c.args.kinds.now in
    let f = c.in-Err.ensures.filled in
    let height : ℕ = height_at c.append_to_builder.new.pool.nodes.now c.append_to_builder.new.builder.node in
    ap₂ (λ (e : StepFault) (p : Memory). (Err e, p)) f.0 (c.release.ensures (suc height) (omega arith))
    ∙ given_up law c.requires.held.2 c.requires.stands c.in_ok-open_builder.ensures c.in-Err.ensures.node f.2.0 f.2.1 f.1
    ∙ asks_none (g.K.RowKinds.kinds c.args.kinds.now) c.requires.stands false c.in_default.ensures c.if-has_gap.ensures

pub replace-requires : goal.replace-requires
replace-requires g c =
    let law = g.met.K.RowKinds.lawful c.args.kinds.now in
    let f = c.in_default-append_to_builder.ensures.filled in
    let inside = open_inside law c.requires.held.2 c.requires.stands c.in_ok-open_builder.ensures c.in_default-append_to_builder.ensures.node f.0 f.2 in
    let s = done_sound law c.requires.held.2 c.requires.stands c.in_ok-open_builder.ensures c.in_default-append_to_builder.ensures.node f.0 f.2 in
    record { inside = inside; owed = (c.append_to_builder.new.builder.node ∷ c.requires.held.0, s.counts); falling = s.falling; within = s.within }

pub returns : goal.returns
returns g c =
    let law = g.met.K.RowKinds.lawful c.args.kinds.now in
    let f = c.in_default-append_to_builder.ensures.filled in
    ap₂ (λ (x : ExecutionStep) (p : Memory). (Ok x, p)) c.replace.ensures.value c.replace.ensures.after
    ∙ done law c.requires.held.2 c.requires.stands c.in_ok-open_builder.ensures c.in_default-append_to_builder.ensures.node f.0 f.2 f.1
    ∙ asks_none (g.K.RowKinds.kinds c.args.kinds.now) c.requires.stands false c.in_default.ensures c.if-has_gap.ensures
