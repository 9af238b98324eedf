-- When tags say the same.
use Rattle.std.specs.Prelude.{Bool, nat_eq}
use mathlib.Core.Bool.{beq}
use Rattle.std.specs.Option.{option_eq}
use Rattle.std.specs.Ordering.{on, eq_of_both}
use Rattle.std.specs.Cmp.Lexicographic.{pointwise}
use Rattle.pdb_base.specs.Text.{name_bytes}
use Rattle.pdb_types.specs.declared.tags.Tag.{Tag}
use Rattle.pdb_types.specs.TypeReading.{shown_tag}
use Rattle.pdb_types.specs.TypeSays.{unique_name_of}

abbrev same_names : Tag → Tag → Bool
same_names = eq_of_both (on (λ t. name_bytes t.name) (pointwise nat_eq)) (on (λ t. unique_name_of (shown_tag t)) (option_eq (pointwise nat_eq)))

-- the same fields, names and unique names
abbrev pub same_tag : Tag → Tag → Bool
same_tag = eq_of_both (on (λ t. t.is_forward) beq) (eq_of_both (on (λ t. t.has_unique_name) beq) (eq_of_both (on (λ t. t.fields.0) nat_eq) same_names))
