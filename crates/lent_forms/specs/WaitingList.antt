-- A lent list of waiting nodes: what a push leaves and what a pop gives, on every list and at every number of nodes that wait. Definitions only.
use Rattle.std.specs.Prelude.{ℕ, ◌-◌, Bool, ◌&&◌, cond, List, length, get_or, set, ltb, leb, Option, Some, None}
use Rattle.std.specs.Float.{nan}
use Rattle.rules.specs.Words.{nought, filled}
use Rattle.rules.specs.Lent.{WaitingForm, Outcome}
use Rattle.lent_forms.specs.declared.Waiting.{Waiting}

-- what is read where a list has no entry
abbrev pub no_entry : Waiting
no_entry = record { node = 0; start = 0; end = 0; level = 0; rows = 0; feature = 0; totals = record { sum = nan; mass = nan }; threshold = nan }

-- the list with w at n; a list that is no longer than n has no such place, and stays as it is
abbrev pub pushed : List Waiting → ℕ → Waiting → Outcome Bool (List Waiting)
pushed l n w = record { answer = ltb n (length l); rooms = set l n w }

-- the last of the n that wait, if any waits and the list has so many entries
abbrev pub popped : List Waiting → ℕ → Option Waiting
popped l n = cond (ltb 0 n && leb n (length l)) (Some (get_or l (n - 1) no_entry)) None

-- an entry whose numbers are all zero
abbrev pub zero_entry : Waiting
zero_entry = record { node = 0; start = 0; end = 0; level = 0; rows = 0; feature = 0; totals = record { sum = nought; mass = nought }; threshold = nought }

-- such a list as a form of the waiting list that a fit is lent
abbrev pub listed : WaitingForm (List Waiting)
listed = record { places = λ l. length l; zeroed = λ l. filled zero_entry l }
