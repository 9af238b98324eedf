-- Words of private functions: sections of the image as spans of addresses, and as cuts.
use Rattle.std.specs.Prelude.{◌≡◌, ℕ, ◌+◌, ◌-◌, ◌*◌, ◌<◌, ◌≤◌, List, length, get_or, take, Option, Some, None}
use Rattle.pdb.specs.ImageSectionHeader.{ImageSectionHeader}
use Rattle.pdb_places.specs.declared.span.Span.{Span}
use Rattle.pdb_places.specs.declared.painted.Cut.{Cut}
use Rattle.pdb_places.specs.AddressPlaces.{IsFirstHolding, Holds, numbered, place_from}
use Rattle.pdb_places.specs.Painting.{owner_at, AreCuts}

-- span k has the addresses of section k, and its number
pub record IsSectionSpan (hs : List ImageSectionHeader) (k : ℕ) (s : Span) : Type 0 where
  pub start : (h : ImageSectionHeader) → s.start ≡ (get_or hs k h).virtual_address
  pub end : (h : ImageSectionHeader) → s.end ≡ (get_or hs k h).virtual_address + (get_or hs k h).virtual_size
  pub owner : s.owner ≡ k

pub record AreSectionSpans (hs : List ImageSectionHeader) (ss : List Span) : Type 0 where
  pub each : (k : ℕ) (d : Span) → k < length ss → IsSectionSpan hs k (get_or ss k d)
  pub as_many : length ss ≡ length hs

-- what is found: the first section that has an address, of those that a place can name, or that none of these has it
abbrev pub IsFoundSection : List ImageSectionHeader → ℕ → Option ℕ → Type 0
IsFoundSection hs x None = (k : ℕ) (h : ImageSectionHeader) → k < length hs → Holds x (get_or hs k h) → ⊥
IsFoundSection hs x (Some k) = (h : ImageSectionHeader) → IsFirstHolding x hs k (get_or hs k h)

-- the cuts find the sections
pub record AreSectionCuts (hs : List ImageSectionHeader) (cs : List Cut) : Type 0 where
  pub cuts : AreCuts cs
  pub finds : (x : ℕ) → IsFoundSection (take 65535 hs) x (owner_at x None cs)
  pub few : length cs ≤ 2 * length hs

-- section k is the first that has an address, and a place can name it
pub record IsPlaced (x : ℕ) (hs : List ImageSectionHeader) (k : ℕ) : Type 0 where
  pub there : k < length hs
  pub small : k < 65535
  pub place : (h : ImageSectionHeader) → place_from x 1 hs ≡ numbered (k + 1) (x - (get_or hs k h).virtual_address)
  pub from : (h : ImageSectionHeader) → (get_or hs k h).virtual_address ≤ x
  pub before : (h : ImageSectionHeader) → x < (get_or hs k h).virtual_address + (get_or hs k h).virtual_size
