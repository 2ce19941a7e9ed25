-- A line that is cut at a limit, and one that is not.
use Rattle.std.proofs.Common.{◌≡◌, ℕ, ◌+◌, ◌-◌, ◌<◌, ◌≤◌, Bool, true, false, List, length, take, Some, None, Option, sym, ap, ◌∙◌, ⊎_elim, arith, length-take, le-leb}
use Rattle.std.proofs.lemmas.List.{take_all}
use Rattle.std.proofs.lemmas.Bool.{lt-leb, cases_lt}
use Rattle.rows.specs.Kind.{Kinds}
use Rattle.planner.specs.Calls.{Told}
use Rattle.lines.specs.Text.{decoded}
use Rattle.lines.specs.Parse.{parsed, longest, asked}

abbrev asked_if : Kinds → Option (List ℕ) → Bool → Option Told
asked_if ks o t = elim t [ true ↦ elim o [ None ↦ None | Some bs ↦ parsed ks bs ] | false ↦ None ]

too_long : (ks : Kinds) (text : List ℕ) → longest ks < length text → asked ks text ≡ None
too_long ks text h = ap (asked_if ks (decoded text)) (lt-leb (length text) (longest ks) h)

-- a text that is cut one digit past the longest call asks the same as the whole
pub cut_asks : (ks : Kinds) (text : List ℕ) → asked ks (take (longest ks + 1) text) ≡ asked ks text
cut_asks ks text =
    ⊎_elim
    (λ (l : length text < longest ks + 1). ap (asked ks) (take_all (longest ks + 1) text (omega arith)))
    (λ (l : longest ks + 1 ≤ length text).
    let n : length (take (longest ks + 1) text) ≡ longest ks + 1 = length-take (longest ks + 1) text ∙ omega arith in
    too_long ks (take (longest ks + 1) text) (omega arith) ∙ sym (too_long ks text (omega arith)))
    (cases_lt (length text) (longest ks + 1))

-- what a text asks, once it is decoded
pub asked_is : (ks : Kinds) (text s : List ℕ) (n : ℕ) → length text ≤ longest ks → decoded text ≡ Some (take n s) → parsed ks (take (n - 0) s) ≡ asked ks text
asked_is ks text s n h e =
    let m : n - 0 ≡ n = omega arith in
    ap (λ k. parsed ks (take k s)) m ∙ sym (ap (asked_if ks (decoded text)) (le-leb (length text) (longest ks) h) ∙ ap (λ (o : Option (List ℕ)). asked_if ks o true) e)
