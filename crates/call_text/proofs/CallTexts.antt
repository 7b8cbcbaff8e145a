-- Calls are read as they are written.
use Rattle.std.proofs.Common.{◌≡◌, ℕ, ◌==◌, eqb, Bool, true, false, cond, List, [], ◌∷◌, ◌++◌, Option, Some, None, refl, sym, ap, subst, ◌∙◌, arith}
use Rattle.std.specs.Prelude.{codes, bytes_eq, option_map, option_and_then}
use Rattle.std.specs.Fmt.{decimal}
use Rattle.std.proofs.lemmas.Bool.Decides.{nat_tests}
use Rattle.listener_set.specs.declared.generation.Generation.{Generation}
use Rattle.plain_text.specs.NumberText.{number_in}
use Rattle.vocabulary.specs.declared.calls.Call.{Call}
use Rattle.vocabulary.specs.declared.calls.Call.TheVariants as call
use Rattle.call_text.specs.declared.verbs.Verb.{Verb}
use Rattle.call_text.specs.declared.verbs.Verb.TheVariants as verb
use Rattle.call_text.specs.Reads.{Reads}
use Rattle.plain_text.specs.Cuts.{cut}
use Rattle.call_text.specs.Reading.{worker_of}
use Rattle.listener_set.specs.GenerationText.{generation_text}
use Rattle.call_text.specs.CallText.{master_text, call_text, call_line, worker_text, forked_text}
use Rattle.call_text.specs.Ranges.{IsNumber, IsCall, IsCallLine, IsWorker}
use Rattle.call_text.specs.CallReading.{fork_from, fork_in, verb_text, all_verbs, verb_of, about, bare_of, call_from, call_in, master_in, line_of}
use Rattle.plain_text.proofs.CutTexts.{lacks, cut_found, cut_at}
use Rattle.call_text.proofs.Readers.{IsReader, reads, mapped, then, both_reads, find_found, number_reads, same_bytes}
use Rattle.call_text.proofs.ForkTexts.{forked_reads, forked_text_is}
use Rattle.call_text.proofs.PartTexts.{number_lacks, generation_reads, worker_reads, address_reads, path_reads, paths_reads}

-- ---- verbs
verb_again : (v : Verb) → verb_of (verb_text v) ≡ Some v
verb_again verb.Open = refl
verb_again verb.Close = refl
verb_again verb.Fork = refl
verb_again verb.AwaitReady = refl
verb_again verb.Quit = refl
verb_again verb.Kill = refl
verb_again verb.Census = refl
verb_again verb.AwaitGone = refl
verb_again verb.SpawnMaster = refl
verb_again verb.WritePid = refl
verb_again verb.MovePid = refl
verb_again verb.RemovePid = refl
verb_again verb.Alive = refl
verb_again verb.Usr1 = refl
verb_again verb.TermMaster = refl
verb_again verb.Ask = refl

verb_lacks : (v : Verb) → lacks 32 (verb_text v) ≡ true
verb_lacks verb.Open = refl
verb_lacks verb.Close = refl
verb_lacks verb.Fork = refl
verb_lacks verb.AwaitReady = refl
verb_lacks verb.Quit = refl
verb_lacks verb.Kill = refl
verb_lacks verb.Census = refl
verb_lacks verb.AwaitGone = refl
verb_lacks verb.SpawnMaster = refl
verb_lacks verb.WritePid = refl
verb_lacks verb.MovePid = refl
verb_lacks verb.RemovePid = refl
verb_lacks verb.Alive = refl
verb_lacks verb.Usr1 = refl
verb_lacks verb.TermMaster = refl
verb_lacks verb.Ask = refl

-- ---- a call that is read
-- what was read behind a verb
module _ {A : Type 0} (P : A → Type 0) (f : A → List ℕ) (r : List ℕ → Option A) (h : IsReader P f r) (make : A → Call) where
  arm : (head : List ℕ) → ((a : A) → P a → IsCall (make a) × (head ++ f a ≡ call_text (make a))) →
      (rest : List ℕ) (c : Call) → option_map make (r rest) ≡ Some c → IsCall c × (head ++ rest ≡ call_text c)
  arm head made rest c e =
      let from = mapped make (r rest) c e in
      let got = h.found rest from.0 from.1 in
      let good = made from.0 got.0 in
      let C : Call → Type 0 = λ c. IsCall c × (head ++ rest ≡ call_text c) in
      subst C from.2 (good.0, ap (λ t. head ++ t) got.1 ∙ good.1)

named : (make : Generation → ℕ → Call) (head : List ℕ) →
    ((g : Generation) (nr : ℕ) → IsWorker g nr → IsCall (make g nr) ×
    (head ++ worker_text g nr ≡ call_text (make g nr))) → (rest : List ℕ) (c : Call) →
    option_map (λ (w : Generation × ℕ). make w.0 w.1) (worker_of rest) ≡ Some c → IsCall c ×
    (head ++ rest ≡ call_text c)
named make head made rest c e =
    arm (λ (w : Generation × ℕ). IsWorker w.0 w.1) (λ (w : Generation × ℕ). worker_text w.0 w.1) worker_of worker_reads (λ (w : Generation × ℕ). make w.0 w.1) head (λ w h. made w.0 w.1 h) rest c e

about_found : (v : Verb) (rest : List ℕ) (c : Call) → about v rest ≡ Some c → IsCall c × (verb_text v ++ 32 ∷ rest ≡ call_text c)
about_found verb.Open rest c e = arm _ _ _ address_reads (λ a. call.OpenAt a) (codes "open ") (λ a h. (h, refl)) rest c e
about_found verb.Close rest c e = arm _ _ _ address_reads (λ a. call.CloseAt a) (codes "close ") (λ a h. (h, refl)) rest c e
about_found verb.Fork rest c e =
    arm _ _ _ forked_reads fork_from (codes "fork ")
    (λ p h. (((h.0, h.1.0), h.1.1), ap (λ t. codes "fork " ++ t) (forked_text_is p.0 p.1.0 p.1.1))) rest c e
about_found verb.AwaitReady rest c e = named (λ g k. call.AwaitReady g k) (codes "await-ready ") (λ g k h. (h, refl)) rest c e
about_found verb.Quit rest c e = named (λ g k. call.Quit g k) (codes "quit ") (λ g k h. (h, refl)) rest c e
about_found verb.Kill rest c e = named (λ g k. call.Kill g k) (codes "kill ") (λ g k h. (h, refl)) rest c e
about_found verb.Census rest c e = arm _ _ _ generation_reads (λ g. call.Census g) (codes "census ") (λ g h. (h, refl)) rest c e
about_found verb.AwaitGone rest c e = named (λ g k. call.AwaitGone g k) (codes "await-gone ") (λ g k h. (h, refl)) rest c e
about_found verb.SpawnMaster rest c e = arm _ _ _ number_reads (λ i. call.SpawnMaster i) (codes "spawn-master ") (λ i h. (h, refl)) rest c e
about_found verb.WritePid rest c e = arm _ _ _ path_reads (λ p. call.WritePid p) (codes "write-pid ") (λ p h. (h, refl)) rest c e
about_found verb.MovePid rest c e = arm _ _ _ paths_reads (λ (p : List ℕ × List ℕ). call.MovePid p.0 p.1) (codes "move-pid ") (λ p h. (h, refl)) rest c e
about_found verb.RemovePid rest c e = arm _ _ _ path_reads (λ p. call.RemovePid p) (codes "remove-pid ") (λ p h. (h, refl)) rest c e
about_found verb.Alive rest c e = arm _ _ _ number_reads (λ i. call.Alive i) (codes "alive ") (λ i h. (h, refl)) rest c e
about_found verb.Usr1 rest c e = named (λ g k. call.Usr1 g k) (codes "usr1 ") (λ g k h. (h, refl)) rest c e
about_found verb.TermMaster rest c e = arm _ _ _ number_reads (λ i. call.TermMaster i) (codes "term-master ") (λ i h. (h, refl)) rest c e
about_found verb.Ask rest c e = arm _ _ _ number_reads (λ i. call.Ask i) (codes "ask ") (λ i h. (h, refl)) rest c e

bare_found : (text : List ℕ) (c : Call) → bare_of text ≡ Some c → IsCall c × (text ≡ call_text c)
bare_found text c e = at (bytes_eq text (codes "adopt")) refl (bytes_eq text (codes "leave")) refl
  where
    at : (a : Bool) → bytes_eq text (codes "adopt") ≡ a → (b : Bool) → bytes_eq text (codes "leave") ≡ b → IsCall c × (text ≡ call_text c)
    at true k b l =
        let same : Some call.Adopt ≡ Some c = sym (ap (λ a. cond a (Some call.Adopt) (cond (bytes_eq text (codes "leave")) (Some call.Leave) None)) k) ∙ e in
        let is : call.Adopt ≡ c = cc in
        let W : Call → Type 0 = λ c. IsCall c × (text ≡ call_text c) in
        subst W is (tt, same_bytes text (codes "adopt") k)
    at false k true l =
        let same : Some call.Leave ≡ Some c =
        sym (ap (λ a. cond a (Some call.Adopt) (cond (bytes_eq text (codes "leave")) (Some call.Leave) None)) k ∙ ap (λ b. cond b (Some call.Leave) None) l) ∙ e in
        let is : call.Leave ≡ c = cc in
        let W : Call → Type 0 = λ c. IsCall c × (text ≡ call_text c) in
        subst W is (tt, same_bytes text (codes "leave") l)
    at false k false l =
        let none : Option Call = None in
        let no : none ≡ Some c =
        sym (ap (λ a. cond a (Some call.Adopt) (cond (bytes_eq text (codes "leave")) (Some call.Leave) None)) k ∙ ap (λ b. cond b (Some call.Leave) None) l) ∙ e in
        absurd cc

call_found : (text : List ℕ) (c : Call) → call_in text ≡ Some c → IsCall c × (text ≡ call_text c)
call_found text c e = at (cut 32 text) refl e
  where
    at : (o : Option (List ℕ × List ℕ)) → cut 32 text ≡ o → call_from text o ≡ Some c → IsCall c × (text ≡ call_text c)
    at None k e = bare_found text c e
    at (Some parts) k e =
        let from = then (λ v. about v parts.1) (verb_of parts.0) c e in
        let is = find_found verb_text parts.0 all_verbs from.0 from.1 in
        let got = about_found from.0 parts.1 c from.2 in
        (got.0, cut_found 32 text parts k ∙ ap (λ t. t ++ 32 ∷ parts.1) is ∙ got.1)

-- ---- a call that was written
behind_verb : (v : Verb) (rest : List ℕ) (o : Option Call) → about v rest ≡ o → call_in (verb_text v ++ 32 ∷ rest) ≡ o
behind_verb v rest o e =
    ap (call_from (verb_text v ++ 32 ∷ rest)) (cut_at 32 (verb_text v) rest (verb_lacks v))
    ∙ ap (option_and_then (λ w. about w rest)) (verb_again v) ∙ e

worker_only : (make : Generation → ℕ → Call) (g : Generation) (nr : ℕ) → IsWorker g nr →
    option_map (λ (w : Generation × ℕ). make w.0 w.1) (worker_of (worker_text g nr)) ≡ Some (make g nr)
worker_only make g nr h = ap (option_map (λ (w : Generation × ℕ). make w.0 w.1)) (worker_reads.only (g, nr) h)

call_only : (c : Call) → IsCall c → call_in (call_text c) ≡ Some c
call_only (call.OpenAt a) h = behind_verb verb.Open a _ (ap (option_map (λ a. call.OpenAt a)) (address_reads.only a h))
call_only (call.CloseAt a) h = behind_verb verb.Close a _ (ap (option_map (λ a. call.CloseAt a)) (address_reads.only a h))
call_only (call.Fork g k fds) h =
    behind_verb verb.Fork (forked_text g k fds) _
    (ap fork_in (sym (forked_text_is g k fds)) ∙ ap (option_map fork_from) (forked_reads.only (g, (k, fds)) (h.0.0, (h.0.1, h.1))))
call_only (call.AwaitReady g k) h = behind_verb verb.AwaitReady (worker_text g k) _ (worker_only (λ g k. call.AwaitReady g k) g k h)
call_only (call.Quit g k) h = behind_verb verb.Quit (worker_text g k) _ (worker_only (λ g k. call.Quit g k) g k h)
call_only (call.Kill g k) h = behind_verb verb.Kill (worker_text g k) _ (worker_only (λ g k. call.Kill g k) g k h)
call_only (call.Census g) h = behind_verb verb.Census (generation_text g) _ (ap (option_map (λ g. call.Census g)) (generation_reads.only g h))
call_only (call.AwaitGone g k) h = behind_verb verb.AwaitGone (worker_text g k) _ (worker_only (λ g k. call.AwaitGone g k) g k h)
call_only (call.SpawnMaster i) h = behind_verb verb.SpawnMaster (decimal i) _ (ap (option_map (λ i. call.SpawnMaster i)) (number_reads.only i h))
call_only call.Adopt h = refl
call_only (call.WritePid p) h = behind_verb verb.WritePid p _ (ap (option_map (λ p. call.WritePid p)) (path_reads.only p h))
call_only (call.MovePid p q) h = behind_verb verb.MovePid (p ++ 32 ∷ q) _ (ap (option_map (λ (x : List ℕ × List ℕ). call.MovePid x.0 x.1)) (paths_reads.only (p, q) h))
call_only (call.RemovePid p) h = behind_verb verb.RemovePid p _ (ap (option_map (λ p. call.RemovePid p)) (path_reads.only p h))
call_only (call.Alive i) h = behind_verb verb.Alive (decimal i) _ (ap (option_map (λ i. call.Alive i)) (number_reads.only i h))
call_only call.Leave h = refl
call_only (call.Usr1 g k) h = behind_verb verb.Usr1 (worker_text g k) _ (worker_only (λ g k. call.Usr1 g k) g k h)
call_only (call.TermMaster i) h = behind_verb verb.TermMaster (decimal i) _ (ap (option_map (λ i. call.TermMaster i)) (number_reads.only i h))
call_only (call.Ask i) h = behind_verb verb.Ask (decimal i) _ (ap (option_map (λ i. call.Ask i)) (number_reads.only i h))

pub call_reads : IsReader IsCall call_text call_in
call_reads = record { found = call_found; only = call_only }

-- ---- masters
pub master_reads : IsReader IsNumber master_text master_in
master_reads = record { found = found; only = λ n h. number_reads.only n h }
  where
    found : (text : List ℕ) (n : ℕ) → master_in text ≡ Some n → IsNumber n × (text ≡ master_text n)
    found [] n e = let none : Option ℕ = None in let no : none ≡ Some n = e in absurd cc
    found (c ∷ cs) n e = at (c == 109) refl e
      where
        at : (b : Bool) → (c == 109) ≡ b → cond b (number_in cs) None ≡ Some n → IsNumber n × (c ∷ cs ≡ master_text n)
        at true k e =
            let got = number_reads.found cs n e in
            let test : eqb c 109 ≡ true = k in
            let is : c ≡ 109 = grind (arith, nat_tests) in
            (got.0, ap (λ x. x ∷ cs) is ∙ ap (λ t. 109 ∷ t) got.1)
        at false k e = let none : Option ℕ = None in let no : none ≡ Some n = e in absurd cc

master_lacks : (n : ℕ) → IsNumber n → lacks 32 (master_text n) ≡ true
master_lacks n h = number_lacks 32 n refl h

pub line_reads : IsReader IsCallLine (λ (line : ℕ × Call). call_line line.0 line.1) line_of
line_reads = both_reads IsNumber IsCall master_text call_text master_in call_in 32 master_lacks master_reads call_reads

pub Reads-line : (text : List ℕ) → Reads IsCallLine (λ (line : ℕ × Call). call_line line.0 line.1) text (line_of text)
Reads-line text = reads IsCallLine (λ (line : ℕ × Call). call_line line.0 line.1) line_of line_reads text
