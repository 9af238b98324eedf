-- What the accessors' holders of several streams mean.
use Rattle.std.specs.Prelude.{ℕ, List, Option, None}
use Rattle.pdb_base.specs.declared.section_header.ImageSectionHeader.{ImageSectionHeader}

-- the streams of frame data
pub record Frames : Type 0 where
  pub old_stream : Option (List ℕ)
  pub new_stream : Option (List ℕ)

-- the section headers and tables of an image that was rearranged, or not
pub record Addresses : Type 0 where
  pub original_sections : List ImageSectionHeader
  pub transformed_sections : Option (List ImageSectionHeader)
  pub omap_from_src : Option (List ℕ)
  pub omap_to_src : Option (List ℕ)

-- an image that wasn't rearranged
abbrev pub as_original : List ImageSectionHeader → Addresses
as_original sections = record { original_sections = sections; transformed_sections = None; omap_from_src = None; omap_to_src = None }
