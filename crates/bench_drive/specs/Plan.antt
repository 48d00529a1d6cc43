-- The plan of a bench drive. Assumes nothing.
use Rattle.std.specs.Prelude.{ℕ, ◌+◌, min, cond, List, Some, None, Option, ◌==◌}
use Rattle.std.specs.List.{find}
use Rattle.drive.specs.Fault.{fault_number}
use Rattle.drive.specs.Link.{link_of}
use Rattle.drive.specs.declared.link.Link.{Link}
use Rattle.bench_drive.specs.declared.plan.PlanEntry.{PlanEntry}

-- an entry that never fires
abbrev pub unused : PlanEntry
unused = record { tick = 0; fault = None; link = 0 }

-- the entry that fires at a tick: the first for it
abbrev pub planned : List PlanEntry → ℕ → Option PlanEntry
planned plan t = find (λ e. e.tick == t) plan

-- the count of ticks, one tick on: held at 65536, which no plan can name
abbrev pub next_tick : ℕ → ℕ
next_tick t = min (t + 1) 65536

-- the fault after a tick: an entry without one keeps it
abbrev pub fault_after : Option PlanEntry → ℕ → ℕ
fault_after None fault = fault
fault_after (Some e) fault = cond (fault_number e.fault == 0) fault (fault_number e.fault)

-- the link after a tick: an entry always sets it
abbrev pub link_after : Option PlanEntry → Link → Link
link_after None link = link
link_after (Some e) link = link_of e.link
