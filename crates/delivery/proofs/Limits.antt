-- What follows where the memory of a register is enough. Assumes nothing.
use Rattle.std.proofs.Common.{◌≡◌, ℕ, ◌+◌, ◌*◌, ◌<◌, ◌≤◌, true, ◌&&◌, ltb, leb, None, refl, arith}
use Rattle.std.proofs.lemmas.Bool.{and_parts, and_from, ltb-true, leb-true, lt-ltb, le-leb}
use Rattle.network.specs.Queues.{sized, fits}
use Rattle.network.specs.declared.queue.Network.{Network}
use Rattle.delivery.specs.Sizes.{within_limits, room_for, enough_for}
use Rattle.delivery.specs.declared.sizes.Sizes.{Sizes}
use Rattle.delivery.proofs.Parts.{part_end}

-- the limits one by one
pub record Limits (n m capacity len : ℕ) (sizes : Sizes) : Type 0 where
  pub some_client : 0 < m
  pub few : m ≤ 64
  pub some_capacity : 0 < capacity
  pub small_capacity : capacity ≤ 4096
  pub capacity_fits : sized capacity sizes.messages ≡ true
  pub standing : len ≤ capacity
  pub memory : capacity ≤ sizes.messages
  pub for_servers : n ≤ sizes.servers
  pub for_clients : m ≤ sizes.clients
  pub for_listeners : n * m ≤ sizes.listeners
  pub for_reports : m * (n * (n + 1)) ≤ sizes.reports

pub limits : (n m capacity len : ℕ) (sizes : Sizes) → enough_for n m capacity len sizes ≡ true → Limits n m capacity len sizes
limits n m capacity len sizes was =
    let both = and_parts (within_limits m capacity len sizes.messages) (room_for n m sizes) was in
    let net : Network = record { capacity = capacity; len = len; lifted = None } in
    let w0 = and_parts (ltb 0 m) (leb m 64 && fits net sizes.messages) both.0 in
    let w1 = and_parts (leb m 64) (fits net sizes.messages) w0.1 in
    let w2 = and_parts (sized capacity sizes.messages) (leb len capacity && true) w1.1 in
    let w3 = and_parts (leb len capacity) true w2.1 in
    let s0 = and_parts (ltb 0 capacity) (leb capacity 4096 && leb capacity sizes.messages) w2.0 in
    let s1 = and_parts (leb capacity 4096) (leb capacity sizes.messages) s0.1 in
    let r0 = and_parts (leb n sizes.servers) (leb m sizes.clients && (leb (n * m) sizes.listeners && leb (m * (n * (n + 1))) sizes.reports)) both.1 in
    let r1 = and_parts (leb m sizes.clients) (leb (n * m) sizes.listeners && leb (m * (n * (n + 1))) sizes.reports) r0.1 in
    let r2 = and_parts (leb (n * m) sizes.listeners) (leb (m * (n * (n + 1))) sizes.reports) r1.1 in
    record {
      some_client = ltb-true 0 m w0.0;
      few = leb-true m 64 w1.0;
      some_capacity = ltb-true 0 capacity s0.0;
      small_capacity = leb-true capacity 4096 s1.0;
      capacity_fits = w2.0;
      standing = leb-true len capacity w3.0;
      memory = leb-true capacity sizes.messages s1.1;
      for_servers = leb-true n sizes.servers r0.0;
      for_clients = leb-true m sizes.clients r1.0;
      for_listeners = leb-true (n * m) sizes.listeners r2.0;
      for_reports = leb-true (m * (n * (n + 1))) sizes.reports r2.1;
    }

-- a queue of another length that is within the capacity
pub other_length : (n m capacity len len' : ℕ) (sizes : Sizes) → len' ≤ capacity → enough_for n m capacity len sizes ≡ true → enough_for n m capacity len' sizes ≡ true
other_length n m capacity len len' sizes fit was =
    let l = limits n m capacity len sizes was in
    let net : Network = record { capacity = capacity; len = len'; lifted = None } in
    and_from (within_limits m capacity len' sizes.messages) (room_for n m sizes)
    (and_from (ltb 0 m) (leb m 64 && fits net sizes.messages) (lt-ltb 0 m l.some_client)
    (and_from (leb m 64) (fits net sizes.messages) (le-leb m 64 l.few)
    (and_from (sized capacity sizes.messages) (leb len' capacity && true) l.capacity_fits (and_from (leb len' capacity) true (le-leb len' capacity fit) refl))))
    (and_parts (within_limits m capacity len sizes.messages) (room_for n m sizes) was).1

module _ (n m capacity len : ℕ) (sizes : Sizes) (was : enough_for n m capacity len sizes ≡ true) where
  -- the servers and their listeners
  pub server_there : (b : ℕ) → b < n → b < sizes.servers
  server_there b low = omega (arith, (limits n m capacity len sizes was).for_servers)

  pub row_there : (b : ℕ) → b < n → b * m + m ≤ sizes.listeners
  row_there b low = omega (arith, part_end b n m low, (limits n m capacity len sizes was).for_listeners)

  -- the clients and their reports
  pub client_there : (c : ℕ) → c < m → c < sizes.clients
  client_there c low = omega (arith, (limits n m capacity len sizes was).for_clients)

  pub part_there : (c : ℕ) → c < m → c * (n * (n + 1)) + n * (n + 1) ≤ sizes.reports
  part_there c low = omega (arith, part_end c m (n * (n + 1)) low, (limits n m capacity len sizes was).for_reports)
