-- The call that a line stands for.
use Rattle.std.specs.Prelude.{◌≡◌, ℕ, ◌+◌, ◌*◌, Bool, true, false, ◌⊎◌, List, [], ◌∷◌, length, take, drop, Some, None, Option, ◌==◌, nat_le, slice_index}
use Rattle.rows.specs.Kind.{Kinds}
use Rattle.encodings.specs.declared.fields.Fields.{Fields}
use Rattle.planner.specs.Calls.{Told, make, assemble, share, release, read}
use Rattle.planner.specs.Called.{in_range, has_room, child_roots}
use Rattle.lines.specs.Text.{decoded}

-- two bytes, the high one first
abbrev pub two : ℕ → ℕ → ℕ
two h l = h * 256 + l

-- four bytes, the high ones first
abbrev pub four : ℕ → ℕ → ℕ → ℕ → ℕ
four a b c d = two (two (two a b) c) d

-- the rows of a making, left out where kind or length is out of range
abbrev pub rows_of : Kinds → ℕ → ℕ → List ℕ → List ℕ
rows_of ks kind n bytes = elim (in_range ks kind n) [ true ↦ bytes | false ↦ [] ]

-- root, kind, length, then the rows
abbrev pub make_of : Kinds → List ℕ → Option Told
make_of ks bs =
    let kind = slice_index bs 1 in
    let n = two (slice_index bs 2) (slice_index bs 3) in
    elim (nat_le 4 (length bs)) [
      | true ↦ Some (make (slice_index bs 0) kind n (rows_of ks kind n (drop 4 bs)))
      | false ↦ None
    ]

-- encoding, kind, length, parameter, number of slots
abbrev pub fields_of : List ℕ → Fields
fields_of bs =
    record {
      encoding = slice_index bs 0;
      kind = slice_index bs 1;
      len = two (slice_index bs 2) (slice_index bs 3);
      parameter = four (slice_index bs 4) (slice_index bs 5) (slice_index bs 6) (slice_index bs 7);
      arity = slice_index bs 8;
    }

-- root, fields, then the roots of the children, which are left out where there are more than eight slots
abbrev pub assemble_of : List ℕ → Option Told
assemble_of bs =
    let f = fields_of (drop 1 bs) in
    elim (nat_le 10 (length bs)) [
      | true ↦ Some (assemble (slice_index bs 0) f (child_roots f (drop 10 bs)))
      | false ↦ None
    ]

-- to, from
abbrev pub share_of : List ℕ → Option Told
share_of bs = elim (length bs == 2) [ true ↦ Some (share (slice_index bs 0) (slice_index bs 1)) | false ↦ None ]

-- a root alone
abbrev pub root_of : (ℕ → Told) → List ℕ → Option Told
root_of call bs = elim (length bs == 1) [ true ↦ Some (call (slice_index bs 0)) | false ↦ None ]

-- by the code of the call
abbrev pub body_of : Kinds → ℕ → List ℕ → Option Told
body_of ks code bs =
    elim (code == 1) [
      | true ↦ make_of ks bs
      | false ↦
          elim (code == 2) [
            | true ↦ assemble_of bs
            | false ↦
                elim (code == 3) [
                  | true ↦ share_of bs
                  | false ↦
                      elim (code == 4) [
                        | true ↦ root_of release bs
                        | false ↦
                            elim (code == 9) [ true ↦ root_of read bs | false ↦ None ]
                      ]
                ]
          ]
    ]

-- the call that bytes stand for: its code, then its fields, then the rest
abbrev pub parsed : Kinds → List ℕ → Option Told
parsed ks [] = None
parsed ks (code ∷ bs) = body_of ks code bs

-- the digits of the longest call: code, root, kind, length, and 1,024 of the widest rows
abbrev pub longest : Kinds → ℕ
longest ks = 2 * (5 + 1024 * ks.widest)

-- the call that a line stands for, if any
abbrev pub asked : Kinds → List ℕ → Option Told
asked ks text =
    elim (nat_le (length text) (longest ks)) [
      | true ↦ elim (decoded text) [ None ↦ None | Some bs ↦ parsed ks bs ]
      | false ↦ None
    ]

-- a making whose rows, or the roots of whose children, are not looked at
abbrev pub unchecked : Kinds → Told → Bool
unchecked ks (make root kind n bytes) = elim (in_range ks kind n) [ true ↦ false | false ↦ true ]
unchecked ks (assemble root f rs) = elim (has_room f) [ true ↦ false | false ↦ true ]
unchecked ks (share to from) = false
unchecked ks (release root) = false
unchecked ks (read root) = false

-- the bytes of a call's header: its code and the fields that it has whatever follows them
abbrev pub header : Told → ℕ
header (make root kind n bytes) = 5
header (assemble root f rs) = 11
header (share to from) = 3
header (release root) = 2
header (read root) = 2

-- A call comes from one text alone, or, where its rows or the roots of its children are not looked at, from the texts
-- with its header.
abbrev pub FromOneText : Kinds → Type 0
FromOneText ks =
    (a b : List ℕ) (c : Told) → asked ks a ≡ Some c → asked ks b ≡ Some c
    → (a ≡ b) ⊎ ((unchecked ks c ≡ true) × (take (2 * header c) a ≡ take (2 * header c) b))
