use Rattle.std.proofs.Common.{arith}
use Rattle.snapshot.specs.declared.rows.NamedEntry.{NamedEntry}
use Rattle.inspect.specs.text.Listing.{name_line}
use Rattle.inspect.proofs.text.Lines.{one_added}
use Rattle.inspect.proofs.text.listing.push_names.Goals as goal

pub loop-named-preserved : goal.loop-named-preserved
loop-named-preserved c =
    one_added (λ (named : NamedEntry). name_line named.name named.entry) _ c.args.names.now c.loop-named.named-index _
    c.loop-named.out.items _ c.push_encoding.new.out.items
    (omega arith) c.loop-named.invariant c.in_ok-line.ensures c.in_ok-push_encoding.ensures
