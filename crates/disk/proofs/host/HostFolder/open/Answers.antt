use Rattle.disk.specs.Files.{view_has_lost}
use Rattle.disk.proofs.host.HostFolder.open.Goals as goal

pub returns-clause-lost : goal.returns-clause-lost
returns-clause-lost g c = view_has_lost (record {
  files = c.args.files;
  path = c.in_ok-from_str.field-0;
  named = c.loop-name.named;
})
