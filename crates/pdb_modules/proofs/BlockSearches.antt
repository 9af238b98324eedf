-- The first record of a subsection that covers a place, while its blocks are read.
use Rattle.std.proofs.Common.{◌≡◌, ℕ, ◌+◌, ◌%◌, ◌^◌, ◌<◌, ◌≤◌, Bool, List, [], ◌∷◌, ◌++◌, map, length, get_or, Option, Some, None, option_map, Ok, Err, refl, sym, ap, subst, ◌∙◌, arith, append_assoc}
use Rattle.std.proofs.lemmas.List.{append-nil, map-append, get_or-map}
use Rattle.pdb_base.specs.declared.error.Error.{Error}
use Rattle.pdb_base.specs.declared.index.PdbInternalSectionOffset.{PdbInternalSectionOffset}
use Rattle.pdb_base.specs.Cursor.{Cursor, Reads}
use Rattle.pdb_base.specs.Left.{Follows}
use Rattle.pdb_base.specs.Tiling.{listing}
use Rattle.pdb_base.proofs.Readings.{read_item, read_fault, read_end, read_moves}
use Rattle.pdb_modules.specs.declared.blocks.Block.{Block}
use Rattle.pdb_modules.specs.declared.line_info.LineInfo.{LineInfo}
use Rattle.pdb_modules.specs.declared.line_program.Listed.{Listed}
use Rattle.pdb_modules.specs.declared.line_search.Begun.{Begun}
use Rattle.pdb_modules.specs.Lines.{Mark, stands, Subsection, entry_mark, end_mark, marks, records, unless_fault, first_of, all_but_last, given, lines_of}
use Rattle.pdb_modules.specs.Blocks.{LineBlock, block_at, block_length, blocks, blocks_from, entries_of}
use Rattle.pdb_modules.specs.BlockViews.{block_of}
use Rattle.pdb_modules.specs.KeptRows.{nearer, after, all_entries, subsection_of}
use Rattle.pdb_modules.specs.LineProgram.{listed_subsections}
use Rattle.pdb_modules.specs.LineSearch.{first_covering, begun_line, if_covers, IsSearched}
use Rattle.pdb_modules.proofs.Reaching.{after_append, after_records}
use Rattle.pdb_modules.proofs.BlockLemmas.{blocks_within}
use Rattle.pdb_modules.proofs.PartLemmas.{same_place}
use Rattle.pdb_modules.proofs.LineSearches.{stays_after, found_whole, at_end}

-- ---- what is given of records

module _ (q : PdbInternalSectionOffset) where
  -- one that was found before the last is given, whatever fault there is
  given_found : (rs : List LineInfo) (f : Option Error) (r : LineInfo) → first_covering q (all_but_last rs) ≡ Some r → first_covering q (given rs f).items ≡ Some r
  given_found rs None r e = found_whole q rs r e
  given_found rs (Some f) r e = e

  alone_marks : (s : Subsection) (f : Option Error) → marks s ++ unless_fault f [] ≡ marks s
  alone_marks s None = append-nil (marks s)
  alone_marks s (Some f) = append-nil (marks s)

  first_fault : (f : Option Error) → first_of f None ≡ f
  first_fault None = refl
  first_fault (Some e) = refl

  -- the records of a subsection as if it were the only one
  pub alone_lines : (s : Subsection) → (lines_of (s ∷ [])).items ≡ (given (records (marks s)) s.fault).items
  unfolding lines_of
  alone_lines s = ap (λ (ms : List Mark). (given (records ms) (first_of s.fault None)).items) (alone_marks s s.fault) ∙ ap (λ (f : Option Error). (given (records (marks s)) f).items) (first_fault s.fault)

  pub lines_found : (s : Subsection) (r : LineInfo) → first_covering q (all_but_last (after [] (marks s))) ≡ Some r → first_covering q (lines_of (s ∷ [])).items ≡ Some r
  lines_found s r e =
      ap (first_covering q) (alone_lines s)
      ∙ given_found (records (marks s)) s.fault r (ap (λ (rs : List LineInfo). first_covering q (all_but_last rs)) (sym (after_records [] (marks s))) ∙ e)

-- ---- the turns of the loop over blocks

module _ (q p : PdbInternalSectionOffset) (columns : Bool) (b : List ℕ) where
  -- the marks of the entries from a place on
  abbrev marks_from : ℕ → List Mark
  marks_from place = map (entry_mark p) (all_entries columns (blocks_from columns b place).items)

  abbrev block_marks : LineBlock → List Mark
  block_marks block = map (entry_mark p) (entries_of columns block)

  -- the marks ms of the blocks before a place came one after another
  pub record IsSearching (place : ℕ) (last : Option Begun) : Type 0 where
    pub ms : List Mark
    pub joined : ms ++ marks_from place ≡ marks_from 0
    pub told : (blocks_from columns b place).fault ≡ (blocks_from columns b 0).fault
    pub searched : IsSearched q (after [] ms) last

  pub searching_begins : IsSearching 0 None
  searching_begins = record { ms = []; joined = refl; told = refl; searched = record { none = refl; is_last = refl } }

  module _ (old new : Cursor) (same : old.bytes ≡ b) (last : Option Begun) (searching : IsSearching old.place last) where
    abbrev BlockFollows : Block → List ℕ → Type 0
    BlockFollows x c = Follows (blocks_from columns c old.place) (block_of x ∷ []) (blocks_from columns c new.place)

    follows : (x : Block) → Reads block_of old new (Ok x) (block_at columns old.bytes old.place) (block_length old.place) → BlockFollows x old.bytes
    unfolding blocks_from
    follows x reads =
        subst (λ (c : List ℕ). Follows (listing (blocks columns) old.bytes old.place) (block_of x ∷ []) (listing (blocks columns) c new.place)) reads.1
        (read_item (block_at columns) block_length (blocks_within columns) block_of (listing (blocks columns) old.bytes old.place) old new refl x reads)

    pub search_moves : (x : Block) → Reads block_of old new (Ok x) (block_at columns old.bytes old.place) (block_length old.place) → (old.place < new.place) × (new.place ≤ length b)
    search_moves x reads =
        let m = read_moves (block_at columns) block_length (blocks_within columns) block_of old new x reads in
        (m.0, omega (arith, m.1, ap length (reads.1 ∙ same)))

    one_block : (x : Block) → BlockFollows x b → marks_from old.place ≡ block_marks (block_of x) ++ marks_from new.place
    one_block x f =
        ap (λ (bs : List LineBlock). map (entry_mark p) (all_entries columns bs)) f.0
        ∙ map-append (entry_mark p) (entries_of columns (block_of x)) (all_entries columns (blocks_from columns b new.place).items)

    more_marks : (x : Block) → Reads block_of old new (Ok x) (block_at columns old.bytes old.place) (block_length old.place) → (searching.ms ++ block_marks (block_of x)) ++ marks_from new.place ≡ marks_from 0
    more_marks x reads =
        let f = subst (BlockFollows x) same (follows x reads) in
        append_assoc searching.ms (block_marks (block_of x)) (marks_from new.place) ∙ (ap (λ (ms : List Mark). searching.ms ++ ms) (sym (one_block x f)) ∙ searching.joined)

    pub search_goes_on : (x : Block) → Reads block_of old new (Ok x) (block_at columns old.bytes old.place) (block_length old.place) → (next : Option Begun) → IsSearched q (after (after [] searching.ms) (block_marks (block_of x))) next → IsSearching new.place next
    search_goes_on x reads next s =
        let f = subst (BlockFollows x) same (follows x reads) in
        record {
          ms = searching.ms ++ block_marks (block_of x);
          joined = more_marks x reads;
          told = sym f.1 ∙ searching.told;
          searched = subst (λ (rs : List LineInfo). IsSearched q rs next) (sym (after_append [] searching.ms (block_marks (block_of x)))) s;
        }

    module _ (size : ℕ) where
      abbrev all_marks : List Mark
      all_marks = marks_from 0 ++ end_mark p size (blocks_from columns b 0).fault

      -- a record of this block is found
      pub search_finds : (x : Block) → Reads block_of old new (Ok x) (block_at columns old.bytes old.place) (block_length old.place) → (r : LineInfo) → first_covering q (all_but_last (after (after [] searching.ms) (block_marks (block_of x)))) ≡ Some r → first_covering q (all_but_last (after [] all_marks)) ≡ Some r
      search_finds x reads r e =
          let done = searching.ms ++ block_marks (block_of x) in
          let left = marks_from new.place ++ end_mark p size (blocks_from columns b 0).fault in
          let whole : done ++ left ≡ all_marks = sym (append_assoc done (marks_from new.place) (end_mark p size (blocks_from columns b 0).fault)) ∙ ap (λ (ms : List Mark). ms ++ end_mark p size (blocks_from columns b 0).fault) (more_marks x reads) in
          ap (λ (ms : List Mark). first_covering q (all_but_last (after [] ms))) (sym whole)
          ∙ (ap (λ (rs : List LineInfo). first_covering q (all_but_last rs)) (after_append [] done left)
          ∙ stays_after q left (after [] done) r (ap (λ (rs : List LineInfo). first_covering q (all_but_last rs)) (after_append [] searching.ms (block_marks (block_of x))) ∙ e))

    -- nothing is left
    all_read : (blocks_from columns b old.place).items ≡ [] → searching.ms ≡ marks_from 0
    all_read e =
        sym (append-nil searching.ms) ∙ (ap (λ (bs : List LineBlock). searching.ms ++ map (entry_mark p) (all_entries columns bs)) (sym e) ∙ searching.joined)

    abbrev BlocksEnd : Option Error → List ℕ → Type 0
    BlocksEnd f c = ((blocks_from columns c old.place).items ≡ []) × ((blocks_from columns c old.place).fault ≡ f)

    fault_ends : (e : Error) → old.place < length old.bytes → Reads block_of old new (Err e) (block_at columns old.bytes old.place) (block_length old.place) → BlocksEnd (Some e) old.bytes
    unfolding blocks_from
    fault_ends e h reads =
        let f = read_fault (block_at columns) block_length (blocks_within columns) block_of (listing (blocks columns) old.bytes old.place) old new refl e new.bytes (length new.bytes) h reads refl (omega arith) in
        (f.0, f.1)

    end_ends : length old.bytes ≤ old.place → BlocksEnd None old.bytes
    unfolding blocks_from
    end_ends h =
        let f = read_end (block_at columns) block_length (blocks_within columns) block_of (listing (blocks columns) old.bytes old.place) old old refl h in
        (f.0, f.1)

    all_searched : (f : Option Error) → BlocksEnd f b → IsSearched q (after [] (marks_from 0)) last
    all_searched f ends = subst (λ (ms : List Mark). IsSearched q (after [] ms) last) (all_read ends.0) searching.searched

    pub nothing_at_fault : (e : Error) (size : ℕ) → old.place < length b → Reads block_of old new (Err e) (block_at columns old.bytes old.place) (block_length old.place) → (s : Subsection) → marks s ≡ marks_from 0 ++ end_mark p size (blocks_from columns b 0).fault → s.fault ≡ (blocks_from columns b 0).fault → first_covering q (lines_of (s ∷ [])).items ≡ None
    nothing_at_fault e size h reads s m f =
        let ends = subst (BlocksEnd (Some e)) same (fault_ends e (omega (arith, ap length same)) reads) in
        let fault : (blocks_from columns b 0).fault ≡ Some e = sym searching.told ∙ ends.1 in
        let all : marks s ≡ marks_from 0 = m ∙ (ap (λ (f : Option Error). marks_from 0 ++ end_mark p size f) fault ∙ append-nil (marks_from 0)) in
        ap (first_covering q) (alone_lines q s)
        ∙ (ap (λ (f : Option Error). first_covering q (given (records (marks s)) f).items) (f ∙ fault)
        ∙ (ap (λ (ms : List Mark). first_covering q (all_but_last (records ms))) all
        ∙ (ap (λ (rs : List LineInfo). first_covering q (all_but_last rs)) (sym (after_records [] (marks_from 0))) ∙ (all_searched (Some e) ends).none)))

    pub last_at_end : (size : ℕ) (end : PdbInternalSectionOffset) (next : Option Begun) → length b ≤ old.place → end.section ≡ p.section → end.offset ≡ (p.offset + size) % 2 ^ 32 → option_map begun_line next ≡ option_map (nearer end) (option_map begun_line last) → (s : Subsection) → marks s ≡ marks_from 0 ++ end_mark p size (blocks_from columns b 0).fault → s.fault ≡ (blocks_from columns b 0).fault → first_covering q (lines_of (s ∷ [])).items ≡ if_covers q (option_map begun_line next)
    last_at_end size end next h section offset is s m f =
        let ends = subst (BlocksEnd None) same (end_ends (omega (arith, ap length same))) in
        let fault : (blocks_from columns b 0).fault ≡ None = sym searching.told ∙ ends.1 in
        let all : marks s ≡ marks_from 0 ++ stands end ∷ [] = m ∙ (ap (λ (f : Option Error). marks_from 0 ++ end_mark p size f) fault ∙ ap (λ (p : PdbInternalSectionOffset). marks_from 0 ++ stands p ∷ []) (sym (same_place p end size section offset))) in
        ap (first_covering q) (alone_lines q s)
        ∙ (ap (λ (f : Option Error). first_covering q (given (records (marks s)) f).items) (f ∙ fault)
        ∙ (ap (λ (ms : List Mark). first_covering q (records ms)) all
        ∙ (ap (first_covering q) (sym (after_records [] (marks_from 0 ++ stands end ∷ [])))
        ∙ (ap (first_covering q) (after_append [] (marks_from 0) (stands end ∷ []))
        ∙ at_end q (after [] (marks_from 0)) last (all_searched None ends) end next is))))

-- ---- the subsection that is searched

pub part_at : (ls : List Listed) (ss : List Subsection) (k : ℕ) (l : Listed) → listed_subsections ls ≡ ss → k < length ls → l ≡ get_or ls k l → (d : Subsection) → subsection_of l.part ≡ get_or ss k d
part_at ls ss k l seen there l_is d =
    ap (λ (l : Listed). subsection_of l.part) l_is
    ∙ (sym (get_or-map (λ (l : Listed). subsection_of l.part) ls k l d there) ∙ ap (λ (ss : List Subsection). get_or ss k d) seen)
