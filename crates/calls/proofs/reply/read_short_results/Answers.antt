use Rattle.std.proofs.Common.{◌≡◌, ℕ, List, ◌++◌, refl, sym, ap, ◌∙◌}
use Rattle.ipc_model.specs.declared.plain_reply.PlainReply.TheVariants as reply
use Rattle.ipc_model.specs.rights.Dispositions.{number_of_kind}
use Rattle.ipc_model.specs.encodings.PlainCalls.{reply_encoding, done_encoding}
use Rattle.words.specs.Words.{word}
use Rattle.calls.proofs.PlainReplies.{one_result}
use Rattle.calls.proofs.reply.read_short_results.Goals as goal

pub returns-in_ok-bits-in-2-clause-only : goal.returns-in_ok-bits-in-2-clause-only
unfolding reply_encoding
returns-in_ok-bits-in-2-clause-only c = λ answer has no_names no_members some.
    let results = c.args.results.now in
    one_result (reply.Type c.in_ok-bits-in-2.bits) answer c.args.number results c.in_ok-bits-in-2.ensures.fits refl
    (ap (λ (n : ℕ). done_encoding n results) c.in-2.is ∙ ap
    (λ (l : List ℕ). done_encoding 2 l) c.in_ok-bits-in-2.ensures.found)
    has

pub returns-in_ok-name-in-5-clause-only : goal.returns-in_ok-name-in-5-clause-only
unfolding reply_encoding
returns-in_ok-name-in-5-clause-only c = λ answer has no_names no_members some.
    let results = c.args.results.now in
    one_result (reply.Allocate c.in_ok-name-in-5.name) answer c.args.number results c.in_ok-name-in-5.ensures.fits refl
    (ap (λ (n : ℕ). done_encoding n results) c.in-5.is ∙ ap
    (λ (l : List ℕ). done_encoding 5 l) c.in_ok-name-in-5.ensures.found)
    has

pub returns-in_ok-count-in-8-clause-only : goal.returns-in_ok-count-in-8-clause-only
unfolding reply_encoding
returns-in_ok-count-in-8-clause-only c = λ answer has no_names no_members some.
    let results = c.args.results.now in
    one_result (reply.References c.in_ok-count-in-8.count) answer c.args.number results
    c.in_ok-count-in-8.ensures.fits refl
    (ap (λ (n : ℕ). done_encoding n results) c.in-8.is ∙ ap
    (λ (l : List ℕ). done_encoding 8 l) c.in_ok-count-in-8.ensures.found)
    has

pub returns-in_ok-status-in-13-clause-only : goal.returns-in_ok-status-in-13-clause-only
unfolding reply_encoding
returns-in_ok-status-in-13-clause-only c = λ answer has no_names no_members some.
    let results = c.args.results.now in
    one_result (reply.ReceiveStatus c.in_ok-status-in-13.status) answer c.args.number results
    c.in_ok-status-in-13.ensures.fits refl
    (ap (λ (n : ℕ). done_encoding n results) c.in-13.is ∙ ap
    (λ (l : List ℕ). done_encoding 13 l) c.in_ok-status-in-13.ensures.found)
    has

pub returns-in_ok-name-in-16-clause-only : goal.returns-in_ok-name-in-16-clause-only
unfolding reply_encoding
returns-in_ok-name-in-16-clause-only c = λ answer has no_names no_members some.
    let results = c.args.results.now in
    one_result (reply.PreviousTarget c.in_ok-name-in-16.name) answer c.args.number results
    c.in_ok-name-in-16.ensures.fits refl
    (ap (λ (n : ℕ). done_encoding n results) c.in-16.is ∙ ap
    (λ (l : List ℕ). done_encoding 16 l) c.in_ok-name-in-16.ensures.found)
    has

pub returns-in_ok-kind-in-18-clause-only : goal.returns-in_ok-kind-in-18-clause-only
unfolding reply_encoding
returns-in_ok-kind-in-18-clause-only c = λ answer has no_names no_members some.
    let results = c.args.results.now in
    let kind : c.in_ok-name-in-18.kind ≡ number_of_kind c.in_ok-kind-in-18.kind =
    sym c.in_ok-kind-in-18.ensures.found in
    one_result (reply.Extracted c.in_ok-name-in-18.name c.in_ok-kind-in-18.kind) answer c.args.number results
    c.in_ok-name-in-18.ensures.fits.0 refl
    (ap (λ (n : ℕ). done_encoding n results) c.in-18.is ∙ ap
    (λ (l : List ℕ). done_encoding 18 l)
    (c.in_ok-name-in-18.ensures.found ∙ ap (λ (k : ℕ). word c.in_ok-name-in-18.name ++ word k) kind))
    has

pub returns-in_ok-space-in-20-clause-only : goal.returns-in_ok-space-in-20-clause-only
unfolding reply_encoding
returns-in_ok-space-in-20-clause-only c = λ answer has no_names no_members some.
    let results = c.args.results.now in
    one_result (reply.SpaceCreated c.in_ok-space-in-20.space c.in_ok-space-in-20.name) answer c.args.number results
    c.in_ok-space-in-20.ensures.fits refl
    (ap (λ (n : ℕ). done_encoding n results) c.in-20.is ∙ ap
    (λ (l : List ℕ). done_encoding 20 l) c.in_ok-space-in-20.ensures.found)
    has
