use Rattle.std.proofs.Common.{◌∙◌, ◌++◌, ap, flat_map, length}
use Rattle.codes.specs.StoreVersion.{current}
use Rattle.image.specs.Parts.{snapshot_added}
use Rattle.image.specs.Rows.{live_port_encoding, row_encoding_of, rows_of}
use Rattle.words.specs.Words.{word}
use Rattle.image.proofs.image.write_into.Goals as goal

pub returns : goal.returns
returns c =
    snapshot_added c.args.snapshot.now c.args.out.now.items c.push_long_word.new.out.items c.push_length.new.out.items
    c.push_all.new.out.items c.push_length-2.new.out.items c.push_rows.new.out.items
    c.in_ok-push_long_word.ensures.ok
    (c.in_ok-push_length.ensures ∙ ap
    (λ l. c.push_long_word.new.out.items ++ word (length l)) c.as_slice-spaces.ensures)
    (c.in_ok-push_all.ensures
    ∙ (λ i. c.push_length.new.out.items
    ++ flat_map (row_encoding_of current) (rows_of (c.as_slice-spaces.ensures i) (c.as_slice.ensures i))))
    (c.in_ok-push_length-2.ensures ∙ ap (λ l. c.push_all.new.out.items ++ word (length l)) c.as_slice-ports.ensures)
    (c.in_ok-push_rows.ensures ∙ ap
    (λ l. c.push_length-2.new.out.items ++ flat_map live_port_encoding l) c.as_slice-ports.ensures)
