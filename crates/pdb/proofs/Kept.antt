-- What is kept of a file, and the refusals of a stream that was had.
use Rattle.std.proofs.Common.{◌≡◌, ℕ, List, Some, None, Ok, Err}
use Rattle.pdb_base.specs.declared.error.Error.{Error}
use Rattle.pdb_base.specs.Refusal.{Fails}
use Rattle.pdb_base.specs.Container.{stream_of}
use Rattle.pdb_dbi.specs.declared.header.DBIHeader.{DBIHeader}
use Rattle.pdb_dbi.specs.Header.{header_of, header_in, debug_information_of}
use Rattle.pdb_dbi.proofs.Prefixes.{front_header, information_same, information_fails}
use Rattle.pdb.specs.Answers.{debug_information_in}

-- the header of the whole DBI stream is that of its front
pub kept_header : (file before stream information : List ℕ) (h : DBIHeader) → file ≡ before → stream_of before 3 None ≡ Ok stream → debug_information_of stream ≡ Ok information → header_of information ≡ Ok h → header_in file (Some 1024) ≡ Ok h
kept_header file before stream information h same whole of_stream header =
    let i = information_same stream information of_stream in
    rw same (front_header before stream h whole (rw (← i) header))

pub information_refused : (io : Type 0) (e : Error) (file stream : List ℕ) → stream_of file 3 None ≡ Ok stream → debug_information_of stream ≡ Err e → Fails io e (debug_information_in file)
unfolding debug_information_in
information_refused io e file stream whole q = rw whole (information_fails io e stream q)
