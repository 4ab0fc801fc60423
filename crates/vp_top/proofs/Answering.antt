-- A run prints what its words define for its whole input, if neither its source nor its sink fails.
use Rattle.std.proofs.Common.{◌≡◌, ◌∙◌, ap, sym, subst, refl, arith, ℕ, ◌≤◌, ◌<◌, List, ◌++◌, length, append-nil, inl, inr, ◌⊎◌}
use Rattle.std.specs.Prelude.{Option, Some, None, codes}
use Rattle.std.proofs.Math.ListN.{length-append}
use Rattle.std.specs.Io.KnownBytes.{Appends, Consumes, IsAtEnd}
use Rattle.vp_outside.specs.Causes.{Rose}
use Rattle.vp_outside.specs.Input.{SourceState, IsEnded}
use Rattle.vp_serving.specs.Serving.{Outside}
use Rattle.vp_words.specs.Commands.{command_of}
use Rattle.vp_top.specs.Complete.{IsGiven}
use Rattle.vp_top.specs.Ends.{Defines, Ends, EndsAsAudit, EndsAsGateway, EndsAsNode, EndsInText, EndsOnDisk, IsPrinted}
use Rattle.vp_top.specs.Program.{AreOf, CallsDisk, HasRead, IsAnswer, IsAnswered, IsDefined, IsForGateway, IsNoCommand, IsTooLong, Reads, most_bytes, usage_text}
use Rattle.vp_status.specs.declared.status.Status.{Status}
use Rattle.vp_status.specs.declared.status.Status.TheVariants as status
use Rattle.vp_words.specs.declared.words.Command.{Command}
use Rattle.vp_words.specs.declared.words.Command.TheVariants as commands

-- ---- the bytes that were taken

pub taken_all : (left after : Option (List ℕ)) (given bytes : List ℕ) → left ≡ Some given → Consumes left after bytes → IsAtEnd after → bytes ≡ given
taken_all None after given bytes e gone ended = cc
taken_all (Some xs) None given bytes e gone ended = absurd gone
taken_all (Some xs) (Some ys) given bytes e gone ended =
    let same : xs ≡ given = cc in
    sym (sym same ∙ gone ∙ ap (λ rest. bytes ++ rest) ended ∙ append-nil bytes)

pub taken_few : (left after : Option (List ℕ)) (given bytes : List ℕ) → left ≡ Some given → Consumes left after bytes → length bytes ≤ length given
taken_few None after given bytes e gone = cc
taken_few (Some xs) None given bytes e gone = absurd gone
taken_few (Some xs) (Some ys) given bytes e gone =
    let same : given ≡ xs = cc in
    let parts = length-append bytes ys in
    rw (same, gone) (omega (arith, parts))

-- ---- the words

pub same_command : (words : List (List ℕ)) (c e : Command) → command_of words ≡ Some c → command_of words ≡ Some e → e ≡ c
same_command words c e w v = let some : Some e ≡ Some c = sym v ∙ w in cc

no_command : (words : List (List ℕ)) (c : Command) → command_of words ≡ Some c → command_of words ≡ None → ⊥
no_command words c w none = let bad : Some c ≡ None = sym w ∙ none in cc

reads_all : (c : Command) (bytes : List ℕ) (ended : Type 0) → Reads c → HasRead c bytes ended → (length bytes ≤ most_bytes) × ended
reads_all (commands.Generate seed count) bytes ended reads read = absurd reads
reads_all (commands.Soak seed count) bytes ended reads read = absurd reads
reads_all (commands.Gateway own turns site) bytes ended reads read = absurd reads
reads_all _ bytes ended reads read = read

-- a gateway doesn't read its input to the end before it does anything
reads_no_gateway : (c : Command) → Reads c → IsForGateway c → ⊥
reads_no_gateway (commands.Gateway own turns site) reads is = reads
reads_no_gateway _ reads is = is

-- ---- what was printed

module _ (words : List (List ℕ)) (source source' : SourceState) (o : Outside) where
  abbrev Printed : Status → Type 0
  Printed end = IsPrinted words source source' o.link o.link' o.sink o.sink' end

  -- a text with this property was printed, or memory ran out
  abbrev pub Comes : (Status → List ℕ → Type 0) → Status → Type 0
  Comes Told end = ((text : List ℕ) × Told end text × Appends o.sink.held o.sink'.held text) ⊎ (end ≡ status.NoMemory)

  pub printed : (end : Status) → EndsInText words source source' o.link o.link' o.sink o.sink' end → (AreOf Reads words → Rose source.faults source'.faults → ⊥) → (Rose o.sink.faults o.sink'.faults → ⊥) → Printed end ⊎ (end ≡ status.NoMemory)
  printed status.NoMemory e no_source no_sink = inr refl
  printed status.SourceFault e no_source no_sink = absurd (no_source e.0 e.1)
  printed status.SinkFault e no_source no_sink = absurd (no_sink e.0)
  printed _ e no_source no_sink = inl e

  told : (Told : Status → List ℕ → Type 0) (end : Status) → Printed end ⊎ (end ≡ status.NoMemory) → ((p : Printed end) → Told end p.text) → Comes Told end
  told Told end (inl p) tells = inl (p.text, tells p, p.appended)
  told Told end (inr memory) tells = inr memory

  -- what the words define is their command's answer, unless they are no command's or the input is too long
  abbrev Cases : List ℕ → Type 0 → Status → List ℕ → Type 0
  Cases bytes ended end text =
      (IsNoCommand words bytes text × (end ≡ status.Usage)) ⊎ ((IsTooLong words bytes text × (end ≡ status.Limit)) ⊎ IsAnswered words bytes ended o.link o.link' end text)

  defined_is : (bytes : List ℕ) (ended : Type 0) (end : Status) (text : List ℕ) → IsDefined words bytes ended o.link o.link' end text → Cases bytes ended end text
  defined_is bytes ended status.Usage text (inl none) = inl (none.0, refl)
  defined_is bytes ended status.Usage text (inr answered) = inr (inr answered)
  defined_is bytes ended status.Limit text (inl long) = inr (inl (long.0, refl))
  defined_is bytes ended status.Limit text (inr answered) = inr (inr answered)
  defined_is bytes ended _ text answered = inr (inr answered)

  -- ---- words that are no command's

  pub usage_told : command_of words ≡ None → (Rose o.sink.faults o.sink'.faults → ⊥) → (end : Status) → Ends words source source' o end
      → Comes (λ end text. (end ≡ status.Usage) × (text ≡ usage_text)) end
  usage_told none calm end (inr (inl (inl node))) = absurd (no_command words _ node.node.words_are none)
  usage_told none calm end (inr (inl (inr audit))) = absurd (no_command words _ audit.audit.words_are none)
  usage_told none calm end (inr (inr gateway)) = absurd (no_command words _ gateway.words_are none)
  usage_told none calm end (inl e) = told (λ end text. (end ≡ status.Usage) × (text ≡ usage_text)) end (printed end e (λ reads rose. no_command words reads.0 reads.1 none) calm) tells
    where
      tells : (p : Printed end) → (end ≡ status.Usage) × (p.text ≡ usage_text)
      tells p = go (defined_is p.defines.bytes (IsEnded source') end p.text p.defines.defined)
        where
          go : Cases p.defines.bytes (IsEnded source') end p.text → (end ≡ status.Usage) × (p.text ≡ usage_text)
          go (inl usage) = (usage.1, usage.0.2)
          go (inr (inl long)) = absurd (no_command words long.0.0.0 long.0.0.1 none)
          go (inr (inr answered)) = absurd (no_command words answered.command answered.words_are none)

  -- ---- the words of a command

  module _ (c : Command) (w : command_of words ≡ Some c) where
    pub no_disk : (CallsDisk c → ⊥) → (end : Status) → EndsOnDisk words source source' o end → ⊥
    no_disk other end (inl n) = other (subst CallsDisk (same_command words c (commands.Node n.site n.log n.turns) w n.node.words_are) tt)
    no_disk other end (inr a) = other (subst CallsDisk (same_command words c (commands.Audit a.logs) w a.audit.words_are) tt)

    pub no_gateway : (IsForGateway c → ⊥) → (end : Status) → EndsAsGateway words source source' o end → ⊥
    no_gateway other end g = other (subst IsForGateway (same_command words c (commands.Gateway g.own g.turns g.site) w g.words_are) tt)

    pub are_of : (P : Command → Type 0) → AreOf P words → P c
    are_of P are = subst P (same_command words c are.0 w are.1) are.2

    answered_by : (bytes : List ℕ) (ended : Type 0) (end : Status) (text : List ℕ) → IsAnswered words bytes ended o.link o.link' end text → HasRead c bytes ended × IsAnswer c bytes o.link o.link' end text
    answered_by bytes ended end text a =
        let same = same_command words c a.command w a.words_are in
        (subst (λ c. HasRead c bytes ended) same a.read, subst (λ c. IsAnswer c bytes o.link o.link' end text) same a.answer)

    -- what is defined is the answer to what was taken, where that is not too long
    pub answer_defined : (end : Status) (text : List ℕ) (d : Defines words source source' o.link o.link' end text) → (IsTooLong words d.bytes text → ⊥) → HasRead c d.bytes (IsEnded source') × IsAnswer c d.bytes o.link o.link' end text
    answer_defined end text d short = go (defined_is d.bytes (IsEnded source') end text d.defined)
      where
        go : Cases d.bytes (IsEnded source') end text → HasRead c d.bytes (IsEnded source') × IsAnswer c d.bytes o.link o.link' end text
        go (inl none) = absurd (no_command words c w none.0.0)
        go (inr (inl long)) = absurd (short long.0)
        go (inr (inr answered)) = answered_by d.bytes (IsEnded source') end text answered

    -- and so is what was printed
    pub answer_to : (end : Status) (p : Printed end) → (IsTooLong words p.defines.bytes p.text → ⊥) → HasRead c p.defines.bytes (IsEnded source') × IsAnswer c p.defines.bytes o.link o.link' end p.text
    answer_to end p short = answer_defined end p.text p.defines short

    -- a command that reads nothing
    module _ (unread : Reads c → ⊥) (calm : Rose o.sink.faults o.sink'.faults → ⊥) (Told : Status → List ℕ → Type 0) (tells : (bytes : List ℕ) (end : Status) (text : List ℕ) → IsAnswer c bytes o.link o.link' end text → Told end text) where
      pub unread_told : (CallsDisk c → ⊥) → (IsForGateway c → ⊥) → (end : Status) → Ends words source source' o end → Comes Told end
      unread_told other none end (inr (inl called)) = absurd (no_disk other end called)
      unread_told other none end (inr (inr gateway)) = absurd (no_gateway none end gateway)
      unread_told other none end (inl e) =
          told Told end (printed end e (λ reads rose. unread (are_of Reads reads)) calm)
          (λ p. tells p.defines.bytes end p.text (answer_to end p (λ long. unread (are_of Reads long.0))).1)

    -- a command that reads these bytes
    module _ (reads : Reads c) (bytes : List ℕ) (given : IsGiven bytes source source' o) where
      pub node_bytes : (end : Status) (n : EndsAsNode words source source' o end) → n.node.bytes ≡ bytes
      node_bytes end n = taken_all source.left source'.left bytes n.node.bytes given.left n.node.took.bytes_gone n.node.ended.1

      pub audit_bytes : (end : Status) (a : EndsAsAudit words source source' o end) → a.audit.bytes ≡ bytes
      audit_bytes end a = taken_all source.left source'.left bytes a.audit.bytes given.left a.audit.took.bytes_gone a.audit.ended.1

      whole : (end : Status) (p : Printed end) → HasRead c p.defines.bytes (IsEnded source') → p.defines.bytes ≡ bytes
      whole end p read = taken_all source.left source'.left bytes p.defines.bytes given.left p.defines.took.bytes_gone (reads_all c p.defines.bytes (IsEnded source') reads read).1.1

      -- they are too many
      pub limit_told : most_bytes < length bytes → (end : Status) → Ends words source source' o end → Comes (λ end text. (end ≡ status.Limit) × (text ≡ codes "limit bytes 16777216\n")) end
      limit_told many end (inr (inr gateway)) = absurd (no_gateway (reads_no_gateway c reads) end gateway)
      limit_told many end (inr (inl (inl node))) = let fits = node.node.fits in let all = ap (λ (d : List ℕ). length d) (node_bytes end node) in absurd (omega (arith, many, fits, all))
      limit_told many end (inr (inl (inr audit))) = let fits = audit.audit.fits in let all = ap (λ (d : List ℕ). length d) (audit_bytes end audit) in absurd (omega (arith, many, fits, all))
      limit_told many end (inl e) = told (λ end text. (end ≡ status.Limit) × (text ≡ codes "limit bytes 16777216\n")) end (printed end e (λ reads. given.no_source_fault) given.no_sink_fault) tells
        where
          tells : (p : Printed end) → (end ≡ status.Limit) × (p.text ≡ codes "limit bytes 16777216\n")
          tells p = go (defined_is p.defines.bytes (IsEnded source') end p.text p.defines.defined)
            where
              few : HasRead c p.defines.bytes (IsEnded source') → ⊥
              few read =
                  let fits = (reads_all c p.defines.bytes (IsEnded source') reads read).0 in
                  let all = ap (λ (d : List ℕ). length d) (whole end p read) in
                  omega (arith, many, fits, all)

              go : Cases p.defines.bytes (IsEnded source') end p.text → (end ≡ status.Limit) × (p.text ≡ codes "limit bytes 16777216\n")
              go (inl none) = absurd (no_command words c w none.0.0)
              go (inr (inl long)) = (long.1, long.0.2)
              go (inr (inr answered)) = absurd (few (answered_by p.defines.bytes (IsEnded source') end p.text answered).0)

      -- they are not too many
      module _ (fits : length bytes ≤ most_bytes) where
        pub answer_is : (end : Status) (p : Printed end) → IsAnswer c bytes o.link o.link' end p.text
        answer_is end p = let a = answer_to end p not_long in subst (λ d. IsAnswer c d o.link o.link' end p.text) (whole end p a.0) a.1
          where
            not_long : IsTooLong words p.defines.bytes p.text → ⊥
            not_long long =
                let few = taken_few source.left source'.left bytes p.defines.bytes given.left p.defines.took.bytes_gone in
                let more = long.1 in
                omega (arith, few, fits, more)

        pub answer_told : (Told : Status → List ℕ → Type 0) → ((end : Status) (text : List ℕ) → IsAnswer c bytes o.link o.link' end text → Told end text) → ((end : Status) → EndsOnDisk words source source' o end → ⊥) → (end : Status) → Ends words source source' o end → Comes Told end
        answer_told Told tells other end (inr (inl called)) = absurd (other end called)
        answer_told Told tells other end (inr (inr gateway)) = absurd (no_gateway (reads_no_gateway c reads) end gateway)
        answer_told Told tells other end (inl e) = told Told end (printed end e (λ reads. given.no_source_fault) given.no_sink_fault) (λ p. tells end p.text (answer_is end p))
