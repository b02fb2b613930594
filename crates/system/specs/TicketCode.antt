-- A code of tickets, by which proofs distinguish them (ghost).
use Rattle.std.specs.Prelude.{ℕ, Option, refl}
use Rattle.std.specs.Ordering.{nat_cmp}
use Rattle.std.specs.FinMap as finmap
use Rattle.std.specs.Coded.{Coded, code_by, coded×, coded_option, coded_ℕ}
use Rattle.ipc_model.specs.contracts.reply.Reply as reply
use Rattle.ipc_model.specs.declared.reply.Reply.{Reply}
use Rattle.system.specs.Core.{TicketsValue}
use Rattle.system.specs.Halves.{TicketValue}

abbrev pub ticket_code : Coded TicketValue
ticket_code =
    code_by (Reply × ℕ) (coded× reply.the_row.coded coded_ℕ) (λ t. (t.answer, t.seen))
    (λ p. record { answer = p.0; seen = p.1 }) (λ _. refl)

abbrev pub tickets_code : Coded TicketsValue
tickets_code =
    code_by (finmap.FinMap nat_cmp (Option TicketValue) × ℕ)
    (coded× (finmap.code coded_ℕ (coded_option ticket_code)) coded_ℕ) (λ t. (t.kept, t.given))
    (λ p. record { kept = p.0; given = p.1 }) (λ _. refl)
