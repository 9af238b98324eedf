use Rattle.std.proofs.Common.{◌≡◌, ℕ, List, ◌∙◌, ap, min, length}
use Rattle.std.proofs.lemmas.Result.{err_from_is_err_and}
use Rattle.pdb_base.specs.Cursor.{Cursor}
use Rattle.pdb_base.specs.Fields.{cstring_at}
use Rattle.pdb_base.proofs.Numbers.{cstring_within}
use Rattle.pdb_dbi.proofs.NameList.{name_refused, name_found}
use Rattle.pdb_dbi.proofs.names.read_name.Goals as goal

-- what stands at the place that was gone to is what stands at the pair's place
same_place : (part : List ℕ) (made gone : Cursor) (p : ℕ) → made ≡ record { bytes = part; place = 0 } → gone ≡ record made { place = min p (length made.bytes) } → cstring_at gone.bytes gone.place ≡ cstring_at part p
same_place part made gone p m g =
    let bytes : gone.bytes ≡ part = ap (λ (k : Cursor). k.bytes) g ∙ ap (λ (k : Cursor). k.bytes) m in
    let place : gone.place ≡ min p (length part) = ap (λ (k : Cursor). k.place) g ∙ ap (λ (k : Cursor). min p (length k.bytes)) m in
    ap (λ (b : List ℕ). cstring_at b gone.place) bytes ∙ cstring_within part p gone.place place

pub returns-in_err-parse_cstring : goal.returns-in_err-parse_cstring
returns-in_err-parse_cstring c =
    let p = err_from_is_err_and c.from_residual.result c.from_residual.ensures.1 in
    let same = same_place c.args.part.now c.from-buffer.result c.seek.new.self c.u32_at.result c.from-buffer.ensures c.seek.ensures in
    let missing = c.in_err-parse_cstring.ensures in
    rw (p.1, p.2) (name_refused c.args.part.now c.args.pairs.now c.args.k c.u32_at.result _ c.u32_at.ensures (rw same at missing.0), missing.2, missing.3)

pub returns : goal.returns
returns c =
    let same = same_place c.args.part.now c.from-buffer.result c.seek.new.self c.u32_at.result c.from-buffer.ensures c.seek.ensures in
    let read = c.in_ok-parse_cstring.ensures in
    name_found c.args.part.now c.args.pairs.now _ c.args.k c.u32_at.result c.u16_at.result c.u32_at.ensures (rw same at read.0) c.u16_at.ensures
