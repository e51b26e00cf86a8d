-- The ends of a range are of one family.
use Rattle.route_tables.proofs.range.range_networks.Goals as goal

pub returns-in-V4-V4-clause-none : goal.returns-in-V4-V4-clause-none
returns-in-V4-V4-clause-none c = rw (c.in-V4-V4.is-0, c.in-V4-V4.is-1) c.ipv4_networks.ensures.none

pub returns-in-V6-V6-clause-none : goal.returns-in-V6-V6-clause-none
returns-in-V6-V6-clause-none c = rw (c.in-V6-V6.is-0, c.in-V6-V6.is-1) c.ipv6_networks.ensures.none

pub returns-in-V4-V4-clause-reason : goal.returns-in-V4-V4-clause-reason
returns-in-V4-V4-clause-reason c = rw (c.in-V4-V4.is-0, c.in-V4-V4.is-1) c.ipv4_networks.ensures.reason

pub returns-in-V6-V6-clause-reason : goal.returns-in-V6-V6-clause-reason
returns-in-V6-V6-clause-reason c = rw (c.in-V6-V6.is-0, c.in-V6-V6.is-1) c.ipv6_networks.ensures.reason
