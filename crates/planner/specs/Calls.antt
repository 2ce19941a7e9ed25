-- Calls and answers as values.
use Rattle.std.specs.Prelude.{ℕ, List, ◌++◌, Ok, Err, Result}
use Rattle.encodings.specs.declared.fields.Fields.{Fields}
use Rattle.planner.specs.declared.call.Call.{Call}
use Rattle.planner.specs.declared.call.Call.TheVariants.{Make, Assemble, Share, Release, Read}
use Rattle.planner.specs.declared.call.Refusal.{Refusal}
use Rattle.planner.specs.declared.call.Reply.{Reply}
use Rattle.planner.specs.declared.call.Reply.TheVariants.{Done, Rows}

-- a call, with what it borrows in full
pub data Told : Type 0 where
  make : (root kind n : ℕ) → List ℕ → Told
  assemble : (root : ℕ) → Fields → List ℕ → Told
  share : (to from : ℕ) → Told
  release : (root : ℕ) → Told
  read : (root : ℕ) → Told

-- an answer, with what it borrows in full
pub data Said : Type 0 where
  done : Said
  rows : (kind n place : ℕ) → List ℕ → Said
  refused : Refusal → Said

abbrev pub told : Call → Told
told (Make root r) = make root r.kind r.len r.bytes.now
told (Assemble root p) = assemble root p.fields p.roots.now
told (Share to from) = share to from
told (Release root) = release root
told (Read root) = read root

abbrev pub said : Result Reply Refusal → Said
said (Ok Done) = done
said (Ok (Rows r)) = rows r.kind r.len r.place r.words.now
said (Err e) = refused e

-- A listener that was a is now b, since it has heard these answers more: whatever it may have heard before, it may have
-- heard that and these.
abbrev pub Hears : {L : Type 0} → (L → List Said → Type 0) → L → L → List Said → Type 0
Hears hears a b more = (before : List Said) → hears a before → hears b (before ++ more)
