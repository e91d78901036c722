-- `params::params_of` meets its contract: the settings, with the depth as a number. Assumes nothing.
use Rattle.params.specs.Params.{params-made}
use Rattle.params.proofs.params_of.Goals as goal

pub returns : goal.returns
returns c =
    params-made _ _ _ (c.limit_of.ensures.value, c.limit_of.ensures.deep)
