-- The sets of kinds are lawful.
use Rattle.std.proofs.Common.{ap, ◌∙◌, arith}
use Rattle.std.specs.Prelude.{ℕ, ◌≤◌, max, Bool, true, false, ◌==◌, refl}
use Rattle.std.proofs.lemmas.Bool.{or_left}
use Rattle.rows.specs.Kind.{Kind, Kinds, LawfulKind}
use Rattle.rows.specs.Ours.{number, mark, LawfulKinds, base_kinds, joined_kinds}
use Rattle.rows.specs.Marks.{mark_lawful}
use Rattle.rows.specs.Numbers.{number_lawful}

base_lawful_at : (b : Bool) → LawfulKind (elim b [ true ↦ mark | false ↦ number ])
base_lawful_at true = mark_lawful
base_lawful_at false = number_lawful

base_width_at : (b : Bool) → (elim b as (λ _. Kind) [ true ↦ mark | false ↦ number ]).width ≤ 4
base_width_at true = omega arith
base_width_at false = omega arith

pub base_kinds_lawful : LawfulKinds base_kinds
base_kinds_lawful = record {
  has_number = refl;
  has_mark = refl;
  is_number = refl;
  is_mark = refl;
  lawful = λ k. base_lawful_at (k == 2);
  width_widest = λ k. base_width_at (k == 2);
}

-- the kind under a number, by whether the set has it and whether it is the one that is joined
abbrev pub joined_at : Bool → Bool → Kind → Kind → Kind
joined_at b d old kd = elim b [ true ↦ old | false ↦ elim d [ true ↦ kd | false ↦ old ] ]

joined_lawful_at : (b d : Bool) (old kd : Kind) → LawfulKind old → LawfulKind kd → LawfulKind (joined_at b d old kd)
joined_lawful_at true d old kd p q = p
joined_lawful_at false true old kd p q = q
joined_lawful_at false false old kd p q = p

joined_width_at : (b d : Bool) (old kd : Kind) (w : ℕ) → old.width ≤ w → (joined_at b d old kd).width ≤ max w kd.width
joined_width_at true d old kd w h = omega arith
joined_width_at false true old kd w h = omega arith
joined_width_at false false old kd w h = omega arith

pub joined_kinds_lawful : (ks : Kinds) (i : ℕ) (kd : Kind) → LawfulKinds ks → LawfulKind kd → LawfulKinds (joined_kinds ks i kd)
joined_kinds_lawful ks i kd law one = record {
  has_number = or_left (ks.has 1) (1 == i) law.has_number;
  has_mark = or_left (ks.has 2) (2 == i) law.has_mark;
  is_number = ap (λ (b : Bool). joined_at b (1 == i) (ks.kind 1) kd) law.has_number ∙ law.is_number;
  is_mark = ap (λ (b : Bool). joined_at b (2 == i) (ks.kind 2) kd) law.has_mark ∙ law.is_mark;
  lawful = λ k. joined_lawful_at (ks.has k) (k == i) (ks.kind k) kd (law.lawful k) one;
  width_widest = λ k. joined_width_at (ks.has k) (k == i) (ks.kind k) kd ks.widest (law.width_widest k);
}
