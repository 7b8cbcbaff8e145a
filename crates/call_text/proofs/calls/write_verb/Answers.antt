use Rattle.call_text.proofs.calls.write_verb.Goals as goal

pub returns-in-AwaitReady-clause-text : goal.returns-in-AwaitReady-clause-text
returns-in-AwaitReady-clause-text g c = rw c.in-AwaitReady.is c.write_named.ensures.text

pub returns-in-AwaitGone-clause-text : goal.returns-in-AwaitGone-clause-text
returns-in-AwaitGone-clause-text g c = rw c.in-AwaitGone.is c.write_named-in-AwaitGone.ensures.text

pub returns-in-SpawnMaster-clause-text : goal.returns-in-SpawnMaster-clause-text
returns-in-SpawnMaster-clause-text g c = rw c.in-SpawnMaster.is c.write_numbered.ensures.text

pub returns-in-RemovePid-clause-text : goal.returns-in-RemovePid-clause-text
returns-in-RemovePid-clause-text g c =
    rw (c.in-RemovePid.is, ← c.bytes-in-RemovePid.ensures.text) c.write_about-in-RemovePid.ensures
