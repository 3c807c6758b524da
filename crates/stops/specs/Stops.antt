-- The stops and the states: each with its number, and each stop with the word of the reply, its name in plain words,
-- the state after it and whether its step counts.
use Rattle.std.specs.Prelude.{ℕ, Bool, true, false, List, codes}
use Rattle.stops.specs.declared.state.State.{State}
use Rattle.stops.specs.declared.state.State.TheVariants.{Empty, Ready, Waiting, Ended}
use Rattle.stops.specs.declared.stop.Stop.{Stop}
use Rattle.stops.specs.declared.stop.Stop.TheVariants.{StepsDone, MonitorCall, NotInstalled, IllegalAddress, AddressWords, ExecutedWords, PushdownOverflow}

abbrev pub state_number : State → ℕ
state_number Empty = 0
state_number Ready = 1
state_number Waiting = 2
state_number Ended = 3

abbrev pub stop_number : Stop → ℕ
stop_number StepsDone = 0
stop_number (MonitorCall w) = 1
stop_number (NotInstalled w) = 2
stop_number (IllegalAddress a) = 3
stop_number AddressWords = 4
stop_number ExecutedWords = 5
stop_number PushdownOverflow = 6

abbrev pub stop_word : Stop → ℕ
stop_word StepsDone = 0
stop_word (MonitorCall w) = w
stop_word (NotInstalled w) = w
stop_word (IllegalAddress a) = a
stop_word AddressWords = 0
stop_word ExecutedWords = 0
stop_word PushdownOverflow = 0

-- as it is shown to a person
abbrev pub stop_text : Stop → List ℕ
stop_text StepsDone = codes "all steps done"
stop_text (MonitorCall w) = codes "monitor call"
stop_text (NotInstalled w) = codes "code not installed"
stop_text (IllegalAddress a) = codes "illegal address"
stop_text AddressWords = codes "too many address words"
stop_text ExecutedWords = codes "too many executed words"
stop_text PushdownOverflow = codes "pushdown overflow"

abbrev pub state_after : Stop → State
state_after StepsDone = Ready
state_after (MonitorCall w) = Waiting
state_after (NotInstalled w) = Waiting
state_after (IllegalAddress a) = Ended
state_after AddressWords = Ended
state_after ExecutedWords = Ended
state_after PushdownOverflow = Ready

abbrev pub step_counts : Stop → Bool
step_counts StepsDone = true
step_counts (MonitorCall w) = true
step_counts (NotInstalled w) = true
step_counts (IllegalAddress a) = false
step_counts AddressWords = false
step_counts ExecutedWords = false
step_counts PushdownOverflow = true
