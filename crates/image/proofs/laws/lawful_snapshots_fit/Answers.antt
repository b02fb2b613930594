use Rattle.image.specs.LawfulFits as fits
use Rattle.image.proofs.laws.lawful_snapshots_fit.Goals as goal

pub returns : goal.returns
returns c = fits.lawful_snapshots_fit
