-- The JSON values of what a stream is.
use Rattle.std.proofs.Common.{◌≡◌, List, [], ◌∷◌, ◌++◌, append_assoc, flat_map, refl, sym, ap, ◌∙◌}
use Rattle.json.specs.Token.{end_array}
use Rattle.json.specs.Tree.{items_tokens, json_tokens}
use Rattle.tool_output.specs.Objects.{text_value}
use Rattle.tool_lists.specs.StreamRoles.{StreamRole, whole_text}
use Rattle.tool_lists.specs.StreamTexts.{what_items}

-- the same of the strings that say what a stream is
pub items_of_roles : (rs : List StreamRole) → items_tokens (what_items rs) ≡ flat_map (λ r. json_tokens (text_value (whole_text r.label r.name))) rs ++ end_array ∷ []
items_of_roles [] = refl
items_of_roles (r ∷ rs) = ap (λ ts. json_tokens (text_value (whole_text r.label r.name)) ++ ts) (items_of_roles rs) ∙ sym (append_assoc (json_tokens (text_value (whole_text r.label r.name))) (flat_map (λ r. json_tokens (text_value (whole_text r.label r.name))) rs) (end_array ∷ []))
