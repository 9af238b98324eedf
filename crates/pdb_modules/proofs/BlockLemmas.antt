-- The blocks of a subsection, and the turns of the loop over them.
use Rattle.std.proofs.Common.{◌≡◌, ℕ, ◌+◌, ◌-◌, ◌*◌, ◌%◌, ◌^◌, ◌<◌, ◌≤◌, Bool, true, false, cond, List, [], ◌∷◌, ◌++◌, map, length, get_or, drop, length-take, Option, Some, None, Ok, Err, Result, inl, inr, refl, sym, ap, subst, ◌∙◌, arith, append_assoc}
use Rattle.std.proofs.lemmas.Bool.{cases_lt}
use Rattle.std.proofs.lemmas.Bool.Decides.{nat_tests}
use Rattle.std.proofs.lemmas.List.{append-nil, map-append, length-map}
use Rattle.std.proofs.lemmas.List.FromFn.{get_or-map-range_with_len, length-range_with_len}
use Rattle.std.specs.Prelude.{nat_lt}
use Rattle.pdb_base.specs.declared.error.Error.TheVariants.{InvalidStreamLength}
use Rattle.pdb_base.specs.declared.error.Part.TheVariants.{LinesBlock}
use Rattle.std.specs.List.{range_with_len}
use Rattle.pdb_base.specs.declared.error.Error.{Error}
use Rattle.pdb_base.specs.declared.index.PdbInternalSectionOffset.{PdbInternalSectionOffset}
use Rattle.pdb_base.specs.Cursor.{Cursor, Reads}
use Rattle.pdb_base.specs.Fields.{number, bytes_at}
use Rattle.pdb_base.specs.Left.{Follows}
use Rattle.pdb_base.specs.Refusal.{◌>>=◌}
use Rattle.pdb_base.specs.Tiling.{listing}
use Rattle.pdb_base.proofs.Places.{bind_ok, slice_is}
use Rattle.pdb_base.proofs.Readings.{ReadsInside, read_item, read_fault, read_end, read_moves}
use Rattle.pdb_modules.specs.declared.blocks.Block.{Block}
use Rattle.pdb_modules.specs.declared.line.Entry.{Entry}
use Rattle.pdb_modules.specs.declared.line_info.LineInfo.{LineInfo}
use Rattle.pdb_modules.specs.declared.rows.Row.{Row}
use Rattle.pdb_modules.specs.Lines.{Mark, entry_mark, end_mark, records}
use Rattle.pdb_modules.specs.Blocks.{LineBlock, block_at, block_in, block_behind, block_length, blocks, blocks_from, entry_of, entries_of, entry_width}
use Rattle.pdb_modules.specs.BlockViews.{block_of}
use Rattle.pdb_modules.specs.KeptRows.{whole, own, noted, noted_from, after, all_entries}
use Rattle.pdb_modules.proofs.Reaching.{after_append}
use Rattle.pdb_modules.proofs.PartLemmas.{end_whole, end_own}

-- ---- entry i of a block

pub entry_is : (columns : Bool) (block : LineBlock) (i : ℕ) (d : Entry) → i < block.count → get_or (entries_of columns block) i d ≡ entry_of columns block i
entry_is columns block i d l = get_or-map-range_with_len (entry_of columns block) 0 block.count i i d l (omega arith)

pub entries_counted : (columns : Bool) (block : LineBlock) → length (entries_of columns block) ≡ block.count
entries_counted columns block = length-map (range_with_len 0 block.count) (entry_of columns block) ∙ length-range_with_len 0 block.count

-- ---- a block lies inside the bytes

in_body : (columns : Bool) (header body : List ℕ) (block : LineBlock) → block_in columns header body ≡ Ok block → block.body ≡ body
in_body columns header body block e = elim (cases_lt (length body) (number header 4 4 * entry_width columns)) [
  | inl h ↦ absurd (grind (arith, nat_tests))
  | inr h ↦ grind (arith, nat_tests)
]

no_refusal : (t : Bool) (e : Error) (r : Result LineBlock Error) (block : LineBlock) → (cond t (Err e) r) ≡ Ok block → r ≡ Ok block
no_refusal true e r block h = absurd cc
no_refusal false e r block h = h

block_ends : (columns : Bool) (b : List ℕ) (p : ℕ) (block : LineBlock) → block_at columns b p ≡ Ok block → p + (12 + length block.body) ≤ length b
unfolding block_at
block_ends columns b p block e =
    let (header, e1, rest1) = bind_ok (bytes_at b p 12) (block_behind columns b p) block e in
    let n = number header 8 4 - 12 in
    let rest2 = no_refusal (nat_lt (number header 8 4) 12) (InvalidStreamLength LinesBlock) (bytes_at b (p + 12) n >>= block_in columns header) block rest1 in
    let (body, e2, rest3) = bind_ok (bytes_at b (p + 12) n) (block_in columns header) block rest2 in
    let there = (slice_is b (p + 12) n body e2).there in
    let value = (slice_is b (p + 12) n body e2).value in
    omega (arith, ap length (in_body columns header body block rest3), ap length value, length-take n (drop (p + 12) b))

pub blocks_within : (columns : Bool) → ReadsInside (block_at columns) block_length
blocks_within columns = record { inside = λ b p block e. let ends = block_ends columns b p block e in (omega arith, omega (arith, ends)) }

-- ---- the turns of the loop over blocks

module _ (p : PdbInternalSectionOffset) (columns : Bool) (b : List ℕ) where
  -- the marks of the entries from a place on
  abbrev marks_from : ℕ → List Mark
  marks_from place = map (entry_mark p) (all_entries columns (blocks_from columns b place).items)

  abbrev block_marks : LineBlock → List Mark
  block_marks block = map (entry_mark p) (entries_of columns block)

  -- the marks ms of the blocks before a place came one after another
  pub record IsReading (place : ℕ) (before now : List Row) : Type 0 where
    pub ms : List Mark
    pub joined : ms ++ marks_from place ≡ marks_from 0
    pub told : (blocks_from columns b place).fault ≡ (blocks_from columns b 0).fault
    pub shown : map whole now ≡ after (map whole before) ms
    pub alone : map own now ≡ map own before ++ records ms

  pub reading_begins : (rows : List Row) → IsReading 0 rows rows
  reading_begins rows = record { ms = []; joined = refl; told = refl; shown = refl; alone = sym (append-nil (map own rows)) }

  module _ (old new : Cursor) (same : old.bytes ≡ b) (before now : List Row) (reading : IsReading old.place before now) where
    abbrev BlockFollows : Block → List ℕ → Type 0
    BlockFollows x c = Follows (blocks_from columns c old.place) (block_of x ∷ []) (blocks_from columns c new.place)

    follows : (x : Block) → Reads block_of old new (Ok x) (block_at columns old.bytes old.place) (block_length old.place) → BlockFollows x old.bytes
    unfolding blocks_from
    follows x reads =
        subst (λ (c : List ℕ). Follows (listing (blocks columns) old.bytes old.place) (block_of x ∷ []) (listing (blocks columns) c new.place)) reads.1
        (read_item (block_at columns) block_length (blocks_within columns) block_of (listing (blocks columns) old.bytes old.place) old new refl x reads)

    pub block_moves : (x : Block) → Reads block_of old new (Ok x) (block_at columns old.bytes old.place) (block_length old.place) → (old.place < new.place) × (new.place ≤ length b)
    block_moves x reads =
        let m = read_moves (block_at columns) block_length (blocks_within columns) block_of old new x reads in
        (m.0, omega (arith, m.1, ap length (reads.1 ∙ same)))

    one_block : (x : Block) → BlockFollows x b → marks_from old.place ≡ block_marks (block_of x) ++ marks_from new.place
    one_block x f =
        ap (λ (bs : List LineBlock). map (entry_mark p) (all_entries columns bs)) f.0
        ∙ map-append (entry_mark p) (entries_of columns (block_of x)) (all_entries columns (blocks_from columns b new.place).items)

    pub reading_goes_on : (x : Block) → Reads block_of old new (Ok x) (block_at columns old.bytes old.place) (block_length old.place) → (next : List Row) → map whole next ≡ after (map whole now) (block_marks (block_of x)) → map own next ≡ map own before ++ records (reading.ms ++ block_marks (block_of x)) → IsReading new.place before next
    reading_goes_on x reads next shown alone =
        let f = subst (BlockFollows x) same (follows x reads) in
        record {
          ms = reading.ms ++ block_marks (block_of x);
          joined = append_assoc reading.ms (block_marks (block_of x)) (marks_from new.place) ∙ (ap (λ (ms : List Mark). reading.ms ++ ms) (sym (one_block x f)) ∙ reading.joined);
          told = sym f.1 ∙ reading.told;
          shown = shown ∙ (ap (λ (rs : List LineInfo). after rs (block_marks (block_of x))) reading.shown ∙ sym (after_append (map whole before) reading.ms (block_marks (block_of x))));
          alone = alone;
        }

    -- nothing is left
    all_read : (blocks_from columns b old.place).items ≡ [] → reading.ms ≡ marks_from 0
    all_read e =
        sym (append-nil reading.ms) ∙ (ap (λ (bs : List LineBlock). reading.ms ++ map (entry_mark p) (all_entries columns bs)) (sym e) ∙ reading.joined)

    abbrev BlocksEnd : Option Error → List ℕ → Type 0
    BlocksEnd f c = ((blocks_from columns c old.place).items ≡ []) × ((blocks_from columns c old.place).fault ≡ f)

    fault_ends : (e : Error) → old.place < length old.bytes → Reads block_of old new (Err e) (block_at columns old.bytes old.place) (block_length old.place) → BlocksEnd (Some e) old.bytes
    unfolding blocks_from
    fault_ends e h reads =
        let f = read_fault (block_at columns) block_length (blocks_within columns) block_of (listing (blocks columns) old.bytes old.place) old new refl e new.bytes (length new.bytes) h reads refl (omega arith) in
        (f.0, f.1)

    end_ends : length old.bytes ≤ old.place → BlocksEnd None old.bytes
    unfolding blocks_from
    end_ends h =
        let f = read_end (block_at columns) block_length (blocks_within columns) block_of (listing (blocks columns) old.bytes old.place) old old refl h in
        (f.0, f.1)

    pub record AllRead (f : Option Error) : Type 0 where
      pub fault_is : f ≡ (blocks_from columns b 0).fault
      pub whole_is : map whole now ≡ after (map whole before) (marks_from 0)
      pub own_is : map own now ≡ map own before ++ records (marks_from 0)

    all_of : (f : Option Error) → BlocksEnd f b → AllRead f
    all_of f ends = record {
      fault_is = sym ends.1 ∙ reading.told;
      whole_is = reading.shown ∙ ap (after (map whole before)) (all_read ends.0);
      own_is = reading.alone ∙ ap (λ (ms : List Mark). map own before ++ records ms) (all_read ends.0);
    }

    pub read_to_fault : (e : Error) → old.place < length b → Reads block_of old new (Err e) (block_at columns old.bytes old.place) (block_length old.place) → AllRead (Some e)
    read_to_fault e h reads = all_of (Some e) (subst (BlocksEnd (Some e)) same (fault_ends e (omega (arith, ap length same)) reads))

    pub read_to_end : length b ≤ old.place → AllRead None
    read_to_end h = all_of None (subst (BlocksEnd None) same (end_ends (omega (arith, ap length same))))

    -- ---- and then the end of the code, or the fault

    module _ (size : ℕ) where
      abbrev all_marks : List Mark
      all_marks = marks_from 0 ++ end_mark p size (blocks_from columns b 0).fault

      with_end : (f : Option Error) → f ≡ (blocks_from columns b 0).fault → marks_from 0 ++ end_mark p size f ≡ all_marks
      with_end f e = ap (λ (f : Option Error). marks_from 0 ++ end_mark p size f) e

      pub whole_at_fault : (e : Error) → AllRead (Some e) → map whole now ≡ after (map whole before) all_marks
      whole_at_fault e r = r.whole_is ∙ ap (after (map whole before)) (sym (append-nil (marks_from 0)) ∙ with_end (Some e) r.fault_is)

      pub own_at_fault : (e : Error) → AllRead (Some e) → map own now ≡ map own before ++ records all_marks
      own_at_fault e r = r.own_is ∙ ap (λ (ms : List Mark). map own before ++ records ms) (sym (append-nil (marks_from 0)) ∙ with_end (Some e) r.fault_is)

      module _ (q : PdbInternalSectionOffset) (s : q.section ≡ p.section) (e : q.offset ≡ (p.offset + size) % 2 ^ 32) (next : List Row) (r : AllRead None) where
        pub whole_at_end : map whole next ≡ noted q (map whole now) → map whole next ≡ after (map whole before) all_marks
        whole_at_end is = end_whole p q size s e (map whole before) (map whole now) (map whole next) (marks_from 0) r.whole_is is ∙ ap (after (map whole before)) (with_end None r.fault_is)

        pub own_at_end : (n : ℕ) → length (map own before) ≡ n → map own next ≡ noted_from n q (map own now) → map own next ≡ map own before ++ records all_marks
        own_at_end n k is = end_own p q size s e (map own before) (map own now) (map own next) (marks_from 0) n k r.own_is is ∙ ap (λ (ms : List Mark). map own before ++ records ms) (with_end None r.fault_is)
