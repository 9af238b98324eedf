-- A public symbol stands in the list of symbols, and is found again by its index.
use Rattle.std.proofs.Common.{◌≡◌, ℕ, zero, suc, ◌<◌, List, [], ◌∷◌, ◌++◌, length, get_or, Option, Some, None, Result, Ok, Err, refl, sym, ap, ◌∙◌, arith}
use Rattle.std.specs.List.{cons_option}
use Rattle.std.specs.Option.{option_map}
use Rattle.pdb.specs.Error.{Error}
use Rattle.pdb.specs.Left.{Left}
use Rattle.pdb.specs.PdbInternalSectionOffset.{PdbInternalSectionOffset}
use Rattle.pdb.specs.Data.{Data}
use Rattle.pdb.specs.Data.Data.{Public}
use Rattle.pdb.specs.Forms.{record_at}
use Rattle.pdb.specs.SymbolList.{Entry, symbols_from}
use Rattle.pdb_symbols.proofs.SymbolLaws.{resumes_at}
use Rattle.pdb_places.specs.PublicNames.{PublicAt, public_said, public_of, named_place, publics_among, publics_in, public_before, public_at}
use Rattle.pdb_places.specs.PublicTable.{public_index, head_public, IndicesRise}
use Rattle.pdb_places.proofs.Nearest.{nearest_found}
use Rattle.pdb_places.proofs.RisingSymbols.{Above, Rises, symbols_rise}

-- its index is the symbol's
said_index : (i : ℕ) (r : Result Data Error) (p : PublicAt) → public_said i r ≡ Some p → p.index ≡ i
said_index i (Ok (Public code function managed msil place name)) p e = sym (ap index_or e)
  where
    index_or : Option PublicAt → ℕ
    index_or None = 0
    index_or (Some p) = p.index
said_index i (Ok d) p e = absurd cc
said_index i (Err x) p e = absurd cc

pub index_is : (s : Entry) (p : PublicAt) → public_of s ≡ Some p → p.index ≡ s.index
index_is s p e = said_index s.index (record_at s.bytes) p e

-- ---- where one stands

record Stands (ss : List Entry) (p : PublicAt) : Type 0 where
  before : List Entry
  symbol : Entry
  after : List Entry
  whole : ss ≡ before ++ symbol ∷ after
  says : public_of symbol ≡ Some p

further : (s : Entry) (ss : List Entry) (p : PublicAt) → Stands ss p → Stands (s ∷ ss) p
further s ss p h = record { before = s ∷ h.before; symbol = h.symbol; after = h.after; whole = ap (λ (l : List Entry). s ∷ l) h.whole; says = h.says }

stands : (ss : List Entry) (k : ℕ) (p : PublicAt) → k < length (publics_among ss) → get_or (publics_among ss) k p ≡ p → Stands ss p
stands [] k p l is = absurd (omega (arith, l))
stands (s ∷ ss) k p l is = by (public_of s) refl k l is (λ j m e. stands ss j p m e)
  where
    by : (o : Option PublicAt) → public_of s ≡ o → (k : ℕ) → k < length (cons_option o (publics_among ss)) → get_or (cons_option o (publics_among ss)) k p ≡ p
        → ((j : ℕ) → j < length (publics_among ss) → get_or (publics_among ss) j p ≡ p → Stands ss p) → Stands (s ∷ ss) p
    by None e k l is rest = further s ss p (rest k l is)
    by (Some r) e zero l is rest = record { before = []; symbol = s; after = ss; whole = refl; says = e ∙ ap Some is }
    by (Some r) e (suc k) l is rest = further s ss p (rest k (omega (arith, l)) is)

-- the one that is found is the symbol at its index
pub public_of_index : (q : PdbInternalSectionOffset) (b : List ℕ) (index : ℕ) → option_map public_index (public_before q (publics_in (Some b))) ≡ Some index → head_public (symbols_from b index).items ≡ public_at q (Some b)
unfolding publics_in
public_of_index q b index e = by (public_before q (publics_among (symbols_from b 0).items)) refl e
  where
    by : (o : Option PublicAt) → public_before q (publics_among (symbols_from b 0).items) ≡ o → option_map public_index o ≡ Some index → head_public (symbols_from b index).items ≡ option_map named_place (public_before q (publics_among (symbols_from b 0).items))
    by None f e = absurd cc
    by (Some p) f e =
        let found = nearest_found q (publics_among (symbols_from b 0).items) p f in
        let at = stands (symbols_from b 0).items found.0 p found.1.there found.1.is in
        let same : p.index ≡ index = cc in
        let number : index ≡ at.symbol.index = sym same ∙ index_is at.symbol p at.says in
        ap (λ (i : ℕ). head_public (symbols_from b i).items) number
        ∙ (ap (λ (l : Left Entry). head_public l.items) (resumes_at b 0 at.before at.after at.symbol at.whole)
        ∙ (ap (option_map named_place) at.says ∙ sym (ap (option_map named_place) f)))

-- ---- the indices rise

abbrev AllAbove : ℕ → List PublicAt → Type 0
AllAbove n ps = (k : ℕ) (d : PublicAt) → k < length ps → n < (get_or ps k d).index

all_above : (n : ℕ) (ss : List Entry) → Above n ss → AllAbove n (publics_among ss)
all_above n [] h k d l = absurd (omega (arith, l))
all_above n (s ∷ ss) h k d l = by (public_of s) refl k l (λ j m. all_above n ss h.1 j d m)
  where
    by : (o : Option PublicAt) → public_of s ≡ o → (k : ℕ) → k < length (cons_option o (publics_among ss)) → ((j : ℕ) → j < length (publics_among ss) → n < (get_or (publics_among ss) j d).index) → n < (get_or (cons_option o (publics_among ss)) k d).index
    by None e k l rest = rest k l
    by (Some p) e zero l rest = let i = index_is s p e in omega (arith, i, h.0)
    by (Some p) e (suc k) l rest = rest k (omega (arith, l))

indices_rise : (ss : List Entry) → Rises ss → IndicesRise (publics_among ss)
indices_rise [] h j k d l m = absurd (omega (arith, m))
indices_rise (s ∷ ss) h j k d l m = by (public_of s) refl j k l m (λ j k l m. indices_rise ss h.1 j k d l m)
  where
    by : (o : Option PublicAt) → public_of s ≡ o → (j k : ℕ) → j < k → k < length (cons_option o (publics_among ss))
        → ((j k : ℕ) → j < k → k < length (publics_among ss) → (get_or (publics_among ss) j d).index < (get_or (publics_among ss) k d).index)
        → (get_or (cons_option o (publics_among ss)) j d).index < (get_or (cons_option o (publics_among ss)) k d).index
    by None e j k l m rest = rest j k l m
    by (Some p) e j zero l m rest = absurd (omega (arith, l))
    by (Some p) e zero (suc k) l m rest = let a = all_above s.index ss h.0 k d (omega (arith, m)) in let i = index_is s p e in omega (arith, a, i)
    by (Some p) e (suc j) (suc k) l m rest = rest j k (omega (arith, l)) (omega (arith, m))

pub publics_rise : (b : List ℕ) → IndicesRise (publics_among (symbols_from b 0).items)
publics_rise b = indices_rise (symbols_from b 0).items (symbols_rise b 0)
