use Rattle.std.proofs.Common.{map, ◌≡◌, ◌∙◌, refl}
use Rattle.pdb_sample.specs.Sample.{stream_of, all_pages, directory_size, directory_pages, list_pages, header_bytes, directory_bytes, page_list, file_bytes}
use Rattle.pdb_sample.proofs.sample.written.Goals as goal

pub returns : goal.returns
unfolding file_bytes
returns c =
    let s = map stream_of c.args.streams.now in
    let p = c.requires in
    let h : c.deref.result.now ≡ header_bytes (all_pages s) (directory_size s) (directory_pages s) (list_pages s) =
    c.deref.ensures.value ∙ c.in_ok-header.ensures ∙ rw (p.streams, p.size, p.directory, p.list) refl in
    let d : c.deref-2.result.now ≡ directory_bytes s = c.deref-2.ensures.value ∙ c.in_ok-directory.ensures in
    let l : c.deref-3.result.now ≡ page_list s = c.deref-3.ensures.value ∙ rw (c.in_ok-put_numbers.ensures, c.new-list.ensures.items, p.streams, p.directory) refl in
    rw (c.in_ok-put_padded-3.ensures, c.in_ok-put_padded-2.ensures, c.in_ok-put_streams.ensures, c.in_ok-put_zeros-2.ensures, c.in_ok-put_zeros.ensures, c.in_ok-put_padded.ensures, c.new-file.ensures.items, h, d, l) refl
