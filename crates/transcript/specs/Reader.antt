-- How far a reader has come.
use Rattle.std.specs.Prelude.{option_map}
use Rattle.transcript.specs.declared.reading.Current.{Current}
use Rattle.transcript.specs.declared.reading.BlocksReader.{BlocksReader}
use Rattle.transcript.specs.Reading.{Opened, Reading}

abbrev pub seen_current : Current → Opened
seen_current o = record { word = o.word; made = o.log.entries }

abbrev pub seen : BlocksReader → Reading
seen r = record { done = r.done.items; current = option_map seen_current r.current }
