use Rattle.std.proofs.Common.{◌≡◌, ◌<◌, ◌^◌, ◌++◌, List, ℕ, length, flat_map, Some, sym, ap, subst, ◌∙◌, rules}
use Rattle.ipc_model.specs.declared.plain_reply.PlainReply.TheVariants as reply
use Rattle.ipc_model.specs.encodings.PlainCalls.{FitsReply}
use Rattle.words.specs.Words.{word}
use Rattle.calls.proofs.PlainReplies.{counted_members, one_members}
use Rattle.calls.proofs.reply.read_member_row.Goals as goal

pub returns-then-len-count-clause-only : goal.returns-then-len-count-clause-only
returns-then-len-count-clause-only c = λ all fits is.
    let items = c.in-Some-2.members.items in
    let row : c.in-Some.rows.now ≡ flat_map word items = rw c.in-Some-2.is at c.in_ok-members.ensures.found in
    let counted =
    counted_members c.args.results.now c.in-Some.rows.now c.in-Some.count items all c.in-Some.ensures.found
    c.in-Some.ensures.fits row fits.0 is in
    let few : length items ≡ c.in-Some.count = counted in
    absurd (c.if-len-count.true (search rules))

pub returns-clause-only : goal.returns-clause-only
returns-clause-only c = λ all fits is.
    let items = c.in-Some-2.members.items in
    let few : length items ≡ c.in-Some.count = search rules in
    let row : c.in-Some.rows.now ≡ flat_map word items = rw c.in-Some-2.is at c.in_ok-members.ensures.found in
    let mine : c.args.results.now ≡ word (length items) ++ flat_map word items =
    c.in-Some.ensures.found ∙ ap (λ (n : ℕ). word n ++ c.in-Some.rows.now) (sym few) ∙ ap
    (λ (l : List ℕ). word (length items) ++ l) row in
    let few_fit = subst (λ (n : ℕ). n < 2 ^ 32) (sym few) c.in-Some.ensures.fits in
    let fits_mine : FitsReply (reply.SetStatus items) =
    (few_fit, rw c.in-Some-2.is at c.in_ok-members.ensures.fits) in
    ap Some (c.new.ensures ∙ one_members items all fits_mine fits (sym mine ∙ is))
