-- The answers and the candidate as the types that the code gives them: a result, or an option.
use Rattle.std.specs.Prelude.{ℕ, Result, Option, Float}
use Rattle.rules.specs.declared.Cut.{Cut}
use Rattle.rules.specs.declared.Refusal.{Refusal}
use Rattle.rules.specs.declared.FitError.{FitError}
use Rattle.rules.specs.declared.Report.{Report}
use Rattle.rules.specs.declared.Figure.{Figure}
use Rattle.rules.specs.declared.Node.{Node}
use Rattle.rules.specs.declared.Misread.{Misread}
use Rattle.rules.specs.declared.Sizes.{Sizes}

-- R0.13
abbrev pub Held : Type 0
Held = Option (Cut × Float)

-- R0.24
abbrev pub Checked : Type 0
Checked = Result (Unit {0}) Refusal

-- R0.20
abbrev pub TreeAnswer : Type 0
TreeAnswer = Result Report FitError

-- R0.20
abbrev pub ForestAnswer : Type 0
ForestAnswer = Result (Unit {0}) FitError

-- R0.21
abbrev pub Reply : Type 0
Reply = Result (Unit {0}) ℕ

-- R0.21
abbrev pub ErrorReply : Type 0
ErrorReply = Result Figure ℕ

-- R0.21
abbrev pub NodeReply : Type 0
NodeReply = Result (Option Node) ℕ

-- R0.25
abbrev pub ModelReply : Type 0
ModelReply = Result Sizes Misread

-- R0.25
abbrev pub SizeReply : Type 0
SizeReply = Result ℕ ℕ
