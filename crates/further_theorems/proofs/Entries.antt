-- What is proper of each step is so of each entry, and leaves the files of others.
use Rattle.std.proofs.Common.{◌≡◌, ℕ, ◌+◌, Bool, true, false, List, Option, Some, None, refl, ◌∙◌, subst, option_map}
use Rattle.std.proofs.Common.{unwrap_or, nat_lt, length}
use Rattle.std.specs.Prelude.{bytes_eq, is_some}
use Rattle.std.specs.List.{AllByRecursion, list_any}
use Rattle.listener_set.specs.AddressList.{has}
use Rattle.listener_set.specs.declared.generation.Generation.{Generation}
use Rattle.vocabulary.specs.declared.calls.Fate.{Fate}
use Rattle.vocabulary.specs.declared.calls.Answer.{Answer}
use Rattle.vocabulary.specs.declared.reports.Entry.{Entry}
use Rattle.definitions.specs.Table.{Address, FilePath, Table, Caller, owner_at, is_held, is_worker, is_active}
use Rattle.definitions.specs.Table.{live_master}
use Rattle.definitions.specs.Calls.{Call, OpenAt, CloseAt, Fork, AwaitReady, Quit, Kill, Census, AwaitGone, SpawnMaster}
use Rattle.definitions.specs.Calls.{Adopt, WritePid}
use Rattle.definitions.specs.Calls.{MovePid, RemovePid, Alive, Leave, Usr1, TermMaster, Ask, Handed, Stepped, gives}
use Rattle.definitions.specs.Calls.{own_step, step_by, step_with}
use Rattle.definitions.specs.Calls.{has_process_room, is_image, suits, with_file, without_file}
use Rattle.definitions.specs.Master.{Record, generation_wanted, addresses_wanted, handover_for}
use Rattle.definitions.specs.Run.{Tree, Branches, Ends, Does, Nothing, Branch, Reply, Pattern, Progress, Ran, run_with}
use Rattle.definitions.specs.Run.{goes_with, call_of}
use Rattle.definitions.specs.Run.{lacked_by, after_moment, after_call, reply_of, start_at}
use Rattle.definitions.specs.Plans.{plan_tree}
use Rattle.call_laws.specs.Pieces.{answered, noted, among}
use Rattle.call_laws.proofs.Choices.{pick}
use Rattle.table_laws.proofs.Addresses.{same-address}
use Rattle.table_laws.proofs.Files.{other-written, other-removed}
use Rattle.further_theorems.specs.Proper.{own_files, IsProperFor, CallsAreProper, FilesOfOthersStay}
use Rattle.further_theorems.proofs.Nodes.{NodesAll}
use Rattle.further_theorems.proofs.Proper.{Right, Any, All, plan-proper}

module _ (r : Record) (wanted : Generation) (addresses : List Address) (handed : Handed) (pattern : Pattern) where
  abbrev Good : Entry → Type 0
  Good e = IsProperFor r wanted addresses e.by e.call

  abbrev AllRight : Branches → Type 0
  AllRight bs = NodesAll (Right r wanted addresses) (Any r wanted addresses) bs

  mutual
    tree-entries : (tree : Tree) (p : Progress) → All r wanted addresses tree → AllByRecursion Good
        (run_with handed tree pattern p).entries
    tree-entries (Ends end) p h = tt
    tree-entries (Does by order set bs) p h =
        let middle = after_moment (pattern (p.calls + 1)).exits p in
        let s = answered handed by order (pattern (p.calls + 1)).fate middle in (
          h.0 (lacked_by by middle.lacked),
          behind-entries bs (reply_of set s.answer)
              (after_call by order set s middle) h.1,
        )

    behind-entries : (bs : Branches) (r : Reply) (p : Progress) → AllRight bs → AllByRecursion Good
        (goes_with handed bs r pattern p).entries
    behind-entries Nothing r p h = tt
    behind-entries (Branch replies said rest more) r p h =
        elim (among replies r) as
        (λ b. AllByRecursion Good (elim b as (λ c. Ran) [
          | true ↦ run_with handed rest pattern
              (noted said p)
          | false ↦ goes_with handed more r pattern p
        ]).entries) [
          | true ↦ tree-entries rest (noted said p) h.0
          | false ↦ behind-entries more r p h.1
        ]

  ---- Files

  module _ (path : FilePath) (off : has (own_files r.pid_path) path ≡ false) where
    other : (own : FilePath) → has (own_files r.pid_path) own ≡ true → bytes_eq own path ≡ false
    other own on = go (bytes_eq own path) refl
      where
        go : (b : Bool) → bytes_eq own path ≡ b → b ≡ false
        go true e = absurd (let f : has (own_files r.pid_path) path ≡ true = subst (λ z. has
            (own_files r.pid_path) z ≡ true) (same-address own path e) on in cc)
        go false e = refl

    abbrev Same : Table → Stepped → Type 0
    Same t st = owner_at path st.table.files ≡ owner_at path t.files

    own-same : (image : ℕ) (c : Caller) (by : ℕ) (call : Call) (t : Table) → IsProperFor r wanted addresses by call →
        Same t (own_step handed image c call t)
    own-same image c by (OpenAt a) t h = pick (Same t) (is_held a t.rows) _ _ (λ e. refl) (λ e. pick (Same t) (nat_lt
        (length c.holds) t.limits.descriptors) _ _ (λ e. refl) (λ e. refl))
    own-same image c by (CloseAt a) t h = refl
    own-same image c by (Fork g k fds) t h = pick (Same t) (list_any (is_worker is_active c.number g k) t.rows) _ _
        (λ e. refl) (λ e. pick (Same t) (has_process_room t) _ _ (λ e. refl) (λ e. refl))
    own-same image c by (AwaitReady g k) t h = pick (Same t) (list_any (is_worker is_active c.number g k) t.rows) _ _
        (λ e. refl) (λ e. refl)
    own-same image c by (Quit g k) t h = refl
    own-same image c by (Kill g k) t h = refl
    own-same image c by (Census g) t h = refl
    own-same image c by (AwaitGone g k) t h = pick (Same t) (list_any (is_worker is_active c.number g k) t.rows) _ _
        (λ e. refl) (λ e. refl)
    own-same image c by (SpawnMaster i) t h = pick (Same t) (list_any (is_image i) t.rows) _ _ (λ e. refl) (λ e. pick
        (Same t) (has_process_room t) _ _ (λ e. refl) (λ e. refl))
    own-same image c by Adopt t h = pick (Same t) (suits handed image c.holds) _ _ (λ e. refl) (λ e. refl)
    own-same image c by (WritePid own) t h = other-written own path c.number t.files (other own h.1)
    own-same image c by (MovePid from to) t h = go (owner_at from t.files)
      where
        go : (o : Option ℕ) → Same t (unwrap_or (option_map (λ
            (n : ℕ). gives Rattle.vocabulary.specs.declared.calls.Answer.TheVariants.Fine
            (record t { files = with_file to n (without_file from t.files) })) o)
            (gives Rattle.vocabulary.specs.declared.calls.Answer.TheVariants.IoFault t))
        go None = refl
        go (Some n) = other-written to path n (without_file from t.files) (other to h.2) ∙
            other-removed from path t.files (other from h.1)
    own-same image c by (RemovePid own) t h = other-removed own path t.files (other own h.1)
    own-same image c by (Alive i) t h = pick (Same t) (is_some (live_master i t.rows)) _ _ (λ e. refl) (λ e. refl)
    own-same image c by Leave t h = refl
    own-same image c by (Usr1 g k) t h = refl
    own-same image c by (TermMaster i) t h = refl
    own-same image c by (Ask n) t h = refl

    step-same : (image : ℕ) (by : ℕ) (call : Call) (fate : Option Fate) (t : Table) →
        IsProperFor r wanted addresses by call → Same t (step_with handed image call fate t)
    step-same image by call fate t h = go (live_master image t.rows)
      where
        or-own : (c : Caller) (f : Option Answer) → Same t (unwrap_or (option_map (λ a. gives a t) f)
            (own_step handed image c call t))
        or-own c None = own-same image c by call t h
        or-own c (Some a) = refl

        go : (o : Option Caller) → Same t (step_by handed image o call fate t)
        go None = refl
        go (Some c) = or-own c _

    -- in each table of a run as in its first
    abbrev Kept : Progress → Progress → Type 0
    Kept first p = owner_at path p.table.files ≡ owner_at path first.table.files

    abbrev Still : Option ℕ → Progress → Type 0
    Still o p = owner_at path p.table.files ≡ o

    mutual
      tree-files : (o : Option ℕ) (tree : Tree) (p : Progress) → Still o p → All r wanted addresses tree →
          AllByRecursion (Still o) (run_with handed tree pattern p).passed
      tree-files o (Ends end) p e h = (e, tt)
      tree-files o (Does by order set bs) p e h =
          let moment = pattern (p.calls + 1) in
          let middle = after_moment moment.exits p in
          let s = answered handed by order moment.fate middle in (
            e,
            (
              e,
              behind-files o bs (reply_of set s.answer) (after_call by order set s middle)
                  (step-same by by (call_of order (lacked_by by middle.lacked)) moment.fate middle.table (h.0
                  (lacked_by by middle.lacked)) ∙ e) h.1,
            ),
          )

      behind-files : (o : Option ℕ) (bs : Branches) (r : Reply) (p : Progress) → Still o p → AllRight bs →
          AllByRecursion (Still o) (goes_with handed bs r pattern p).passed
      behind-files o Nothing r p e h = (e, tt)
      behind-files o (Branch replies said rest more) r p e h =
          elim (among replies r) as
          (λ b. AllByRecursion (Still o) (elim b as (λ c. Ran) [
            | true ↦ run_with handed rest pattern
                (noted said p)
            | false ↦ goes_with handed more r pattern p
          ]).passed) [
            | true ↦ tree-files o rest (noted said p) e h.0
            | false ↦ behind-files o more r p e h.1
          ]

pub calls-are-proper : CallsAreProper
calls-are-proper t r target turns pattern =
    tree-entries r (generation_wanted r target) (addresses_wanted r target) (handover_for r target) pattern
    (plan_tree r target turns) (start_at t r.note) (plan-proper r target turns)

pub files-of-others-stay : FilesOfOthersStay
files-of-others-stay t r target turns pattern path off =
    tree-files r (generation_wanted r target) (addresses_wanted r target) (handover_for r target) pattern path off
    (owner_at path t.files) (plan_tree r target turns)
    (start_at t r.note) refl (plan-proper r target turns)
