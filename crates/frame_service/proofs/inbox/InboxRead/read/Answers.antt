use Rattle.std.proofs.Common.{◌≡◌, ℕ, ◌==◌, false, length, take, drop, sym, ap, ◌∙◌}
use Rattle.frame_service.specs.Boxes.{InboxValue}
use Rattle.frame_service.proofs.Boxes.{reads_front}
use Rattle.frame_service.proofs.inbox.InboxRead.read.Goals as goal

pub returns-clause-bytes : goal.returns-clause-bytes
returns-clause-bytes g c =
    let n = c.copy_front-count.result in
    let some : (length c.self.inside.bytes.items == 0) ≡ false = sym c.is_empty.ensures ∙ c.if-is_empty.false in
    reads_front g.R.Read.remaining c.args.self.now _ _ c.self.inside.source n c.copy_front-count.new.buf
    (ap (λ (v : InboxValue g.row.R.Denot). v.stream) c.self.view_is)
    (c.advance.ensures.items ∙ ap (λ (v : InboxValue g.row.R.Denot). drop n v.bytes) c.self.view_is)
    (c.copy_front-count.ensures.bytes ∙ ap (take n) c.as_slice.ensures
    ∙ ap (λ (v : InboxValue g.row.R.Denot). take n v.bytes) c.self.view_is)
    (c.copy_front-count.ensures.some
    (λ none. absurd (cc (sym (ap (λ (k : ℕ). k == 0) (sym (ap length c.as_slice.ensures) ∙ none)) ∙ some))))
