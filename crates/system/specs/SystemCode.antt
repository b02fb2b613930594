-- A code of a core's values, by which proofs distinguish them (ghost).
use Rattle.std.specs.Prelude.{ℕ, Bool, Option, refl}
use Rattle.std.specs.Coded.{Coded, code_by, coded×, coded_bool, coded_option, coded_ℕ}
use Rattle.store_half.specs.epoch_log.Logs.{TakenValue, taken_code}
use Rattle.store_half.specs.Values.{StoreValue, store_code}
use Rattle.system.specs.Core.{SystemValue, TicketsValue}
use Rattle.system.specs.Halves.{KernelValue, kernel_code}
use Rattle.system.specs.TicketCode.{tickets_code}

abbrev pub system_code : {D : Type 0} → Coded D → Coded (SystemValue D)
system_code {D = D} code =
    code_by (KernelValue × (StoreValue D × (Option TakenValue × (Option ℕ × (Option ℕ × (Bool × TicketsValue))))))
    (coded× kernel_code (coded× (store_code code)
    (coded× (coded_option taken_code)
    (coded× (coded_option coded_ℕ) (coded× (coded_option coded_ℕ) (coded× coded_bool tickets_code))))))
    (λ s. (s.core, (s.store, (s.out, (s.receipt, (s.finished, (s.finished_first, s.tickets)))))))
    (λ p. record {
      core = p.0;
      store = p.1.0;
      out = p.1.1.0;
      receipt = p.1.1.1.0;
      finished = p.1.1.1.1.0;
      finished_first = p.1.1.1.1.1.0;
      tickets = p.1.1.1.1.1.1;
    }) (λ _. refl)
