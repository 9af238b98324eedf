-- JSON values of names and of frames.
use Rattle.std.proofs.Common.{◌≡◌, ℕ, ◌<◌, List, [], ◌∷◌, ◌++◌, append_assoc, flat_map, length, refl, sym, ap, ◌∙◌, arith}
use Rattle.json.specs.Json.{null}
use Rattle.json.specs.Token.{end_array}
use Rattle.json.specs.Tree.{items_tokens, json_tokens}
use Rattle.pdb_resolve.specs.Frames.{Frame}
use Rattle.tool_search.specs.FrameObjects.{frame_items, frame_value}
use Rattle.tool_output.specs.Objects.{text_value}
use Rattle.pdb_text.specs.Digits.{hex}
use Rattle.tool_search.specs.SourceTexts.{digest_value}

pub digest_none : (digest : List ℕ) → length digest ≡ 0 → digest_value digest ≡ null
digest_none [] h = refl
digest_none (b ∷ bytes) h = absurd (omega arith)

pub digest_some : (digest : List ℕ) → 0 < length digest → digest_value digest ≡ text_value (flat_map (hex 2) digest)
digest_some [] h = absurd (omega arith)
digest_some (b ∷ bytes) h = refl

-- the tokens of frames one after another, and the end of their array
pub items_of_frames : (fs : List Frame) → items_tokens (frame_items fs) ≡ flat_map (λ f. json_tokens (frame_value f)) fs ++ end_array ∷ []
items_of_frames [] = refl
items_of_frames (f ∷ fs) = ap (λ ts. json_tokens (frame_value f) ++ ts) (items_of_frames fs) ∙ sym (append_assoc (json_tokens (frame_value f)) (flat_map (λ f. json_tokens (frame_value f)) fs) (end_array ∷ []))
