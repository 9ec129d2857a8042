-- What an event that is done on a record does to it, and what it is done on.
use Rattle.std.specs.Prelude.{◌≤◌, ◌<◌, ◌≡◌}
use Rattle.event.specs.declared.Event.{Event}
use Rattle.event.specs.Kinds.{DivertCall}
use Rattle.call.specs.declared.Effect.{Effect}
use Rattle.call.specs.Act.{act}
use Rattle.sight.specs.declared.Seen.{Seen}

-- what an event that is done does to the record at its place
abbrev pub acted_of : Event → Seen → Effect
acted_of e v = act v.call e v.identifier

-- what is done on a record has a kind of the page's table, and a divert is within the limit, so that its counter has room for one more
abbrev pub Doable : Event → Seen → Type 0
Doable e v = (1 ≤ e.kind) × (e.kind ≤ 15) × (e.kind ≡ DivertCall → v.call.counter < 255)
