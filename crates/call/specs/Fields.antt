-- A record with one field changed: antt has no record update.
use Rattle.std.specs.Prelude.{ℕ}
use Rattle.notice.specs.declared.History.{History}
use Rattle.waits.specs.declared.Waits.{Waits}
use Rattle.call.specs.declared.Call.{Call}

abbrev pub basic_is : ℕ → Call → Call
basic_is x c = record {
  direction = c.direction;
  basic = x;
  cdo = c.cdo;
  cdr = c.cdr;
  cds = c.cds;
  cdf = c.cdf;
  granted = c.granted;
  counter = c.counter;
  start = c.start;
  party = c.party;
  history = c.history;
  own = c.own;
  diverting = c.diverting;
  original = c.original;
  identifier = c.identifier;
  reason = c.reason;
  waiting = c.waiting;
}

abbrev pub cdo_is : ℕ → Call → Call
cdo_is x c = record {
  direction = c.direction;
  basic = c.basic;
  cdo = x;
  cdr = c.cdr;
  cds = c.cds;
  cdf = c.cdf;
  granted = c.granted;
  counter = c.counter;
  start = c.start;
  party = c.party;
  history = c.history;
  own = c.own;
  diverting = c.diverting;
  original = c.original;
  identifier = c.identifier;
  reason = c.reason;
  waiting = c.waiting;
}

abbrev pub cdr_is : ℕ → Call → Call
cdr_is x c = record {
  direction = c.direction;
  basic = c.basic;
  cdo = c.cdo;
  cdr = x;
  cds = c.cds;
  cdf = c.cdf;
  granted = c.granted;
  counter = c.counter;
  start = c.start;
  party = c.party;
  history = c.history;
  own = c.own;
  diverting = c.diverting;
  original = c.original;
  identifier = c.identifier;
  reason = c.reason;
  waiting = c.waiting;
}

abbrev pub cds_is : ℕ → Call → Call
cds_is x c = record {
  direction = c.direction;
  basic = c.basic;
  cdo = c.cdo;
  cdr = c.cdr;
  cds = x;
  cdf = c.cdf;
  granted = c.granted;
  counter = c.counter;
  start = c.start;
  party = c.party;
  history = c.history;
  own = c.own;
  diverting = c.diverting;
  original = c.original;
  identifier = c.identifier;
  reason = c.reason;
  waiting = c.waiting;
}

abbrev pub cdf_is : ℕ → Call → Call
cdf_is x c = record {
  direction = c.direction;
  basic = c.basic;
  cdo = c.cdo;
  cdr = c.cdr;
  cds = c.cds;
  cdf = x;
  granted = c.granted;
  counter = c.counter;
  start = c.start;
  party = c.party;
  history = c.history;
  own = c.own;
  diverting = c.diverting;
  original = c.original;
  identifier = c.identifier;
  reason = c.reason;
  waiting = c.waiting;
}

abbrev pub granted_is : ℕ → Call → Call
granted_is x c = record {
  direction = c.direction;
  basic = c.basic;
  cdo = c.cdo;
  cdr = c.cdr;
  cds = c.cds;
  cdf = c.cdf;
  granted = x;
  counter = c.counter;
  start = c.start;
  party = c.party;
  history = c.history;
  own = c.own;
  diverting = c.diverting;
  original = c.original;
  identifier = c.identifier;
  reason = c.reason;
  waiting = c.waiting;
}

abbrev pub party_is : ℕ → Call → Call
party_is x c = record {
  direction = c.direction;
  basic = c.basic;
  cdo = c.cdo;
  cdr = c.cdr;
  cds = c.cds;
  cdf = c.cdf;
  granted = c.granted;
  counter = c.counter;
  start = c.start;
  party = x;
  history = c.history;
  own = c.own;
  diverting = c.diverting;
  original = c.original;
  identifier = c.identifier;
  reason = c.reason;
  waiting = c.waiting;
}

abbrev pub waiting_is : Waits → Call → Call
waiting_is x c = record {
  direction = c.direction;
  basic = c.basic;
  cdo = c.cdo;
  cdr = c.cdr;
  cds = c.cds;
  cdf = c.cdf;
  granted = c.granted;
  counter = c.counter;
  start = c.start;
  party = c.party;
  history = c.history;
  own = c.own;
  diverting = c.diverting;
  original = c.original;
  identifier = c.identifier;
  reason = c.reason;
  waiting = x;
}

abbrev pub history_is : History → Call → Call
history_is x c = record {
  direction = c.direction;
  basic = c.basic;
  cdo = c.cdo;
  cdr = c.cdr;
  cds = c.cds;
  cdf = c.cdf;
  granted = c.granted;
  counter = c.counter;
  start = c.start;
  party = c.party;
  history = x;
  own = c.own;
  diverting = c.diverting;
  original = c.original;
  identifier = c.identifier;
  reason = c.reason;
  waiting = c.waiting;
}

abbrev pub identifier_is : ℕ → Call → Call
identifier_is x c = record {
  direction = c.direction;
  basic = c.basic;
  cdo = c.cdo;
  cdr = c.cdr;
  cds = c.cds;
  cdf = c.cdf;
  granted = c.granted;
  counter = c.counter;
  start = c.start;
  party = c.party;
  history = c.history;
  own = c.own;
  diverting = c.diverting;
  original = c.original;
  identifier = x;
  reason = c.reason;
  waiting = c.waiting;
}

abbrev pub reason_is : ℕ → Call → Call
reason_is x c = record {
  direction = c.direction;
  basic = c.basic;
  cdo = c.cdo;
  cdr = c.cdr;
  cds = c.cds;
  cdf = c.cdf;
  granted = c.granted;
  counter = c.counter;
  start = c.start;
  party = c.party;
  history = c.history;
  own = c.own;
  diverting = c.diverting;
  original = c.original;
  identifier = c.identifier;
  reason = x;
  waiting = c.waiting;
}

abbrev pub start_is : ℕ → Call → Call
start_is x c = record {
  direction = c.direction;
  basic = c.basic;
  cdo = c.cdo;
  cdr = c.cdr;
  cds = c.cds;
  cdf = c.cdf;
  granted = c.granted;
  counter = c.counter;
  start = x;
  party = c.party;
  history = c.history;
  own = c.own;
  diverting = c.diverting;
  original = c.original;
  identifier = c.identifier;
  reason = c.reason;
  waiting = c.waiting;
}
