-- What a tree grows by, from the settings of a call. Assumes nothing.
use Rattle.std.specs.Prelude.{ℕ, ◌≤◌, ◌≡◌}
use Rattle.rules.specs.declared.Params.{Params}
use Rattle.rules.specs.declared.Settings.{Settings}
use Rattle.rules.specs.Fit.{limit_of, params_of}

-- the settings, with the depth as a number of 16 bits
pub record ParamsMade (S : Settings) (tried features : ℕ) (p : Params) : Type 0 where
  pub same : p ≡ params_of S tried features
  pub deep : p.limit ≤ 65535

pub params-made : (S : Settings) (tried features : ℕ) {l : ℕ} → (l ≡ limit_of S.depth) × (l ≤ 65535)
    → ParamsMade S tried features (record { limit = l; leaf = S.leaf; split = S.split; tried = tried; features = features; splitter = S.splitter; height = S.height })
unfolding params_of
params-made S tried features el =
    record { same = λ i. record { limit = el.0 i; leaf = S.leaf; split = S.split; tried = tried; features = features; splitter = S.splitter; height = S.height }; deep = el.1 }
