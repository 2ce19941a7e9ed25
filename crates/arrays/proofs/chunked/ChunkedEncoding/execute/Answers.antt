use Rattle.std.proofs.Common.{◌≡◌, ℕ, zero, suc, ◌<◌, ◌≢◌, true, false, eqb, List, [], ◌∷◌, take, drop, Some, None, Ok, Err, Option, Result, sym, refl, ap, ap₂, ◌∙◌, arith}
use Rattle.std.proofs.lemmas.Bool.{eq-eqb, ne_eqb}
use Rattle.std.proofs.lemmas.Result.{err_from_is_err_and}
use Rattle.rows.specs.Kind.{Kinds}
use Rattle.pool.specs.Memory.{Memory, node_at, slots_at}
use Rattle.pool.specs.Counts.{names}
use Rattle.pool.specs.Seen.{memory_of}
use Rattle.encodings.specs.declared.step.ExecutionStep.{ExecutionStep}
use Rattle.encodings.specs.declared.step.ExecutionStep.TheVariants.{ExecuteSlot, AppendChild, Done}
use Rattle.encodings.specs.declared.step.StepFault.{StepFault}
use Rattle.encodings.specs.Rows.{fields_of, gathered, flat_rows, StandsAt, given}
use Rattle.encodings.specs.Flattening.{flattened, flat_given}
use Rattle.encodings.specs.Chunked.{first_present, chunked_encodings, chunked_step}
use Rattle.encodings.proofs.Chunked.{step_by}
use Rattle.encodings.proofs.Fillings.{flattened_refused, given_same, open_inside, done_sound, done}
use Rattle.arrays.proofs.chunked.ChunkedEncoding.execute.Goals as goal

-- slots that name nothing are not found
first_taken : (n : ℕ) (ss : List (Option ℕ)) (from : ℕ) → names (drop n ss) ≡ [] → first_present ss from ≡ first_present (take n ss) from
first_taken zero [] from e = refl
first_taken zero (None ∷ ss) from e = first_taken zero ss (suc from) e
first_taken zero (Some c ∷ ss) from e = let z : ◌≡◌ {A = ℕ} 0 1 = cc in absurd (omega arith)
first_taken (suc n) [] from e = refl
first_taken (suc n) (None ∷ ss) from e = first_taken n ss (suc from) e
first_taken (suc n) (Some c ∷ ss) from e = refl

module _ (ks : Kinds) {m : Memory} {i : ℕ} (stands : StandsAt (chunked_encodings ks) m i) where
  step_is : (o : Option (ℕ × ℕ)) → o ≡ first_present (slots_at m.nodes i) 0 → step_by ks m i o (eqb (node_at m i).arity 0) ≡ chunked_step ks m i
  step_is o e = ap (λ (p : Option (ℕ × ℕ)). step_by ks m i p (eqb (node_at m i).arity 0)) (e ∙ first_taken (node_at m i).arity (slots_at m.nodes i) 0 stands.no_more)

  appends : (x c : ℕ) → Some (x, c) ≡ first_present (slots_at m.nodes i) 0 → (node_at m c).encoding ≡ 1 → (Ok (AppendChild x), m) ≡ chunked_step ks m i
  appends x c e flat = let f : eqb (node_at m c).encoding 1 ≡ true = eq-eqb (node_at m c).encoding 1 flat in sym (rw (f, step_by) refl) ∙ step_is (Some (x, c)) e

  asks : (x c : ℕ) → Some (x, c) ≡ first_present (slots_at m.nodes i) 0 → (node_at m c).encoding ≢ 1 → (Ok (ExecuteSlot x 1), m) ≡ chunked_step ks m i
  asks x c e ne = let f : eqb (node_at m c).encoding 1 ≡ false = ne_eqb (node_at m c).encoding 1 ne in sym (rw (f, step_by) refl) ∙ step_is (Some (x, c)) e

  stays : None ≡ first_present (slots_at m.nodes i) 0 → 0 < (node_at m i).arity → (Ok (Done i), m) ≡ chunked_step ks m i
  stays e some = let f : eqb (node_at m i).arity 0 ≡ false = ne_eqb (node_at m i).arity 0 (λ z. omega (arith, z)) in sym (rw (f, step_by) refl) ∙ step_is None e

  empties : None ≡ first_present (slots_at m.nodes i) 0 → (node_at m i).arity ≡ 0 → flattened ks m i (Some []) ≡ chunked_step ks m i
  empties e never = let f : eqb (node_at m i).arity 0 ≡ true = eq-eqb (node_at m i).arity 0 never in sym (rw (f, step_by) refl) ∙ step_is None e

  none_given : (node_at m i).arity ≡ 0 → flat_given ks (chunked_encodings ks) m i ≡ Some []
  none_given e = ap (λ (n : ℕ). given (chunked_encodings ks) (fields_of (node_at m i)) (gathered (λ c. Some (flat_rows ks m c)) (take n (slots_at m.nodes i)))) e

pub replace-requires : goal.replace-requires
replace-requires g c =
    let law = g.met.K.RowKinds.lawful c.args.kinds.now in
    let node = c.in_ok-node-in-None-2 in
    let s = done_sound law c.requires.held.2 c.requires.stands node.ensures refl [] refl in
    record { inside = open_inside law c.requires.held.2 c.requires.stands node.ensures refl [] refl; owed = (node.node ∷ c.requires.held.0, s.counts); falling = s.falling; within = s.within }

pub returns-in-Some : goal.returns-in-Some
returns-in-Some g c = appends (g.K.RowKinds.kinds c.args.kinds.now) c.requires.stands c.in-Some.slot c.in-Some.child c.in-Some.ensures c.if-pool-child-eq-FLAT.true

pub returns-in-Some-2 : goal.returns-in-Some-2
returns-in-Some-2 g c = asks (g.K.RowKinds.kinds c.args.kinds.now) c.requires.stands c.in-Some.slot c.in-Some.child c.in-Some.ensures c.if-pool-child-eq-FLAT.false

pub returns-in-None : goal.returns-in-None
returns-in-None g c = stays (g.K.RowKinds.kinds c.args.kinds.now) c.requires.stands c.in-None.ensures c.if-node-gt0.true

pub returns-in_err-node-in-None-2 : goal.returns-in_err-node-in-None-2
returns-in_err-node-in-None-2 g c =
    let ks : Kinds = g.K.RowKinds.kinds c.args.kinds.now in
    let q : Memory = memory_of c.open_builder.new.self in
    let p = err_from_is_err_and c.from_residual.result c.from_residual.ensures.1 in
    ap (λ (r : Result ExecutionStep StepFault). (r, q)) p.1
    ∙ ap (λ (x : StepFault). (Err x, q)) p.2
    ∙ flattened_refused ks (memory_of c.args.pool.now) q c.args.array (Some []) c.in_err-node-in-None-2.field-0.0 c.in_err-node-in-None-2.ensures
    ∙ empties ks c.requires.stands c.in-None.ensures (omega arith)

pub returns-in_ok-node-in-None-2 : goal.returns-in_ok-node-in-None-2
returns-in_ok-node-in-None-2 g c =
    let ks : Kinds = g.K.RowKinds.kinds c.args.kinds.now in
    let law = g.met.K.RowKinds.lawful c.args.kinds.now in
    let node = c.in_ok-node-in-None-2 in
    let none = none_given ks c.requires.stands (omega arith) in
    ap₂ (λ (x : ExecutionStep) (p : Memory). (Ok x, p)) c.replace.ensures.value c.replace.ensures.after
    ∙ done law c.requires.held.2 c.requires.stands node.ensures refl [] refl (given_same law c.requires.held.2 c.requires.stands node.ensures ∙ none)
    ∙ ap (flattened ks (memory_of c.args.pool.now) c.args.array) none
    ∙ empties ks c.requires.stands c.in-None.ensures (omega arith)
