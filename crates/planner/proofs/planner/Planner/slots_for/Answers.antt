use Rattle.std.proofs.Common.{Bool, true, false, List, Ok, Err, Option, Result, ℕ, sym, ap, ◌∙◌}
use Rattle.encodings.specs.declared.fields.Fields.{Fields}
use Rattle.encodings.specs.Meaning.{Encodings}
use Rattle.planner.specs.declared.call.Refusal.{Refusal}
use Rattle.planner.specs.declared.call.Refusal.TheVariants.{Slots}
use Rattle.planner.specs.Called.{State, slots_under}
use Rattle.planner.specs.Seen.{state_of, means_in}
use Rattle.planner.proofs.Taking.{slots_chosen}
use Rattle.planner.proofs.planner.Planner.slots_for.Goals as goal

-- the slots, by the test of what is in them
abbrev tested : List (Option ℕ) → Bool → Result (List (Option ℕ)) Refusal
tested ss fit = elim fit [ false ↦ Err Slots | true ↦ Ok ss ]

pub returns-then-not-slots_fit : goal.returns-then-not-slots_fit
returns-then-not-slots_fit g c =
    let s : State = state_of c.args.self.now in
    let f : Fields = c.args.parts.now.fields in
    let es : Encodings = means_in g.K.RowKinds.kinds g.E.Encoding.means c.args.self.now.session in
    ap (tested c.in_ok-slots.slots) c.if-not-slots_fit.ensures
    ∙ slots_chosen _ es (g.met.E.EncodingSet.complete _ _).lawful s c.args.root f c.args.parts.now.roots.now c.in_ok-target.target c.in_ok-slots.slots
    (sym c.if-not-is_counted.ensures) (sym c.in_ok-target.was ∙ c.root.ensures) (sym c.if-not-roots_exist.ensures) (sym c.in_ok-slots.was ∙ c.slots_under.ensures ∙ ap (slots_under s) c.child_roots.ensures)
    (sym c.if-is_some.ensures) (sym c.if-not-fields_known.ensures)

pub returns : goal.returns
returns g c =
    let s : State = state_of c.args.self.now in
    let f : Fields = c.args.parts.now.fields in
    let es : Encodings = means_in g.K.RowKinds.kinds g.E.Encoding.means c.args.self.now.session in
    ap (tested c.in_ok-slots.slots) c.if-not-slots_fit.ensures
    ∙ slots_chosen _ es (g.met.E.EncodingSet.complete _ _).lawful s c.args.root f c.args.parts.now.roots.now c.in_ok-target.target c.in_ok-slots.slots
    (sym c.if-not-is_counted.ensures) (sym c.in_ok-target.was ∙ c.root.ensures) (sym c.if-not-roots_exist.ensures) (sym c.in_ok-slots.was ∙ c.slots_under.ensures ∙ ap (slots_under s) c.child_roots.ensures)
    (sym c.if-is_some.ensures) (sym c.if-not-fields_known.ensures)
