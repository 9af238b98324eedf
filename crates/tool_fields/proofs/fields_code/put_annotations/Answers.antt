use Rattle.std.proofs.Common.{sym, subst, ◌∙◌, ◌≡◌, ◌++◌, ℕ, List, OnOk, codes}
use Rattle.tool_fields.specs.FieldTexts.{field, label}
use Rattle.tool_fields.specs.ValueTexts.{bytes_text}
use Rattle.tool_fields.proofs.Annotations.{annotations_are}
use Rattle.tool_fields.proofs.Results.{more}
use Rattle.tool_fields.proofs.fields_code.put_annotations.Goals as goal

pub returns : goal.returns
unfolding field
returns c =
    let same = c.annotations_in.ensures ∙ sym (annotations_are _ _ c.requires) in
    more c.put_bytes.result c.args.out.now.items c.put_label.new.out.items c.put_bytes.new.out.items (label (codes "annotations")) _
    (subst (λ (b : List ℕ). OnOk c.put_bytes.result (c.put_bytes.new.out.items ≡ c.put_label.new.out.items ++ bytes_text b)) same c.put_bytes.ensures) c.in_ok-put_label.ensures
