use Rattle.std.proofs.Common.{rules, ◌≡◌, ℕ, List, ◌++◌, length, take, drop, ap, ◌∙◌}
use Rattle.std.specs.Prelude.{◌-◌, min}
use Rattle.disk.specs.Slots.{slot_of}
use Rattle.inspect.specs.still_disk.Live.{one_piece_more}
use Rattle.inspect.proofs.still_disk.Read.{came}
use Rattle.inspect.proofs.still_disk.pieces.read_on.Goals as goal

pub returns-clause-more : goal.returns-clause-more
returns-clause-more g c = λ honest begun copied.
    let now = g.S.LiveSlots.now c.read_live.new.self in
    let slot : List ℕ = slot_of (g.S.LiveSlots.slots now) c.args.slot in
    let bytes : List ℕ = c.args.bytes.now.items in
    let piece : List ℕ = c.read_live.new.buffer in
    let n : ℕ = c.in_ok-count.count in
    let at : c.len.result ≡ length bytes = search rules in
    let longer : c.extend_from_slice.new.self.items ≡ bytes ++ take n piece = search rules in
    let count : n ≡ min (length c.args.piece.now) (length slot - length bytes) =
    c.in_ok-count.ensures.count honest ∙ ap (λ k. min (length c.args.piece.now) (length slot - k)) at in
    let is : piece ≡ take n (drop (length bytes) slot) ++ drop n c.args.piece.now =
    c.in_ok-count.ensures.bytes honest ∙ ap (λ k. take n (drop k slot) ++ drop n c.args.piece.now) at in
    one_piece_more now n c.extend_from_slice.new.self.items copied (c.in_ok-count.ensures.later honest)
    (longer ∙ ap (λ l. bytes ++ l) (came slot c.args.piece.now piece (length bytes) n count is))
