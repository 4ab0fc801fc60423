-- What is kept of the messages of each pair of sites.
use Rattle.std.specs.Prelude.{◌≡◌, ◌≤◌, ◌<◌, ◌+◌, ◌-◌, ◌*◌, ◌==◌, ◌&&◌, ℕ, false, not, if◌then◌else◌, List, [], ◌∷◌, ◌++◌, filter, map, length, slice_index_or}
use Rattle.vp_model.specs.Types.{Sent}
use Rattle.vp_model.specs.Words.{has}
use Rattle.vp_mail.specs.declared.queue.Numbered.{Numbered}

-- the place of a pair's queue; there are at most 16 sites
abbrev pub pair_of : ℕ → ℕ → ℕ
pair_of from to = (from - 1) * 16 + (to - 1)

-- the numbers, from k on, of the pair's messages that were never delivered
abbrev pub waiting : ℕ → List ℕ → ℕ → List Sent → List ℕ
waiting pair delivered k [] = []
waiting pair delivered k (sent ∷ rest) =
    if (pair_of sent.from sent.to == pair) && not (has delivered k)
    then k ∷ waiting pair delivered (k + 1) rest
    else waiting pair delivered (k + 1) rest

abbrev pub without : ℕ → List ℕ → List ℕ
without k numbers = filter (λ j. not (j == k)) numbers

-- the numbers ascend, and are n or more
abbrev pub Rises : ℕ → List ℕ → Type 0
Rises n [] = Unit {0}
Rises n (k ∷ numbers) = (n ≤ k) × Rises (k + 1) numbers

-- each of the numbers is below n
abbrev pub AreBelow : ℕ → List ℕ → Type 0
AreBelow n [] = Unit {0}
AreBelow n (k ∷ numbers) = (k < n) × AreBelow n numbers

-- the numbers of the messages of a queue that were never delivered
abbrev pub undelivered_numbers : List Numbered → List ℕ
undelivered_numbers [] = []
undelivered_numbers (m ∷ rest) = if m.delivered then undelivered_numbers rest else m.number ∷ undelivered_numbers rest

-- the numbers ascend, and neither the first message nor the last one was delivered
pub record IsTrimmed (messages : List Numbered) : Type 0 where
  pub rises : Rises 0 (map (λ m. m.number) messages)
  pub first : (m : Numbered) (rest : List Numbered) → messages ≡ m ∷ rest → m.delivered ≡ false
  pub last : (m : Numbered) (before : List Numbered) → messages ≡ before ++ m ∷ [] → m.delivered ≡ false

pub record AreSites (from to : ℕ) : Type 0 where
  pub from_least : 1 ≤ from
  pub from_most : from ≤ 16
  pub to_least : 1 ≤ to
  pub to_most : to ≤ 16

abbrev pub AreSited : List Sent → Type 0
AreSited [] = Unit {0}
AreSited (sent ∷ rest) = AreSites sent.from sent.to × AreSited rest

-- each pair has its queue, and no message is delivered before it is sent
pub record IsQueued (queues : List (List ℕ)) (sent : List Sent) (delivered : List ℕ) : Type 0 where
  pub few : length sent ≤ 2000000
  pub count : length queues ≡ 256
  pub each : (pair : ℕ) → pair < 256 → slice_index_or queues pair [] ≡ waiting pair delivered 1 sent
  pub later : (k : ℕ) → length sent < k → has delivered k ≡ false
  pub sited : AreSited sent

-- nothing was sent yet
abbrev pub AreEmpty : List (List ℕ) → Type 0
AreEmpty queues = (pair : ℕ) → slice_index_or queues pair [] ≡ []
