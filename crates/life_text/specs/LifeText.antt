-- The text of a life's account.
use Rattle.std.specs.Prelude.{ℕ, ◌==◌, List, [], ◌∷◌, ◌++◌, Option, Some, None, codes, if◌then◌else◌}
use Rattle.std.specs.Fmt.{decimal}
use Rattle.life_account.specs.declared.opened.TablePlace.{TablePlace}
use Rattle.life_account.specs.declared.opened.LeastReady.{LeastReady}
use Rattle.life_account.specs.declared.opened.OpenAddress.{OpenAddress}
use Rattle.life_account.specs.declared.shorts.ShortWord.{ShortWord}
use Rattle.life_account.specs.Account.{Account}

-- a number behind what it counts
unfoldable pub number_text : List ℕ → ℕ → List ℕ
number_text name n = name ++ codes " " ++ decimal n

-- a word by its number; 0 is the start
abbrev pub word_text : ℕ → List ℕ
word_text word = if word == 0 then codes "start" else number_text (codes "word") word

unfoldable pub place_text : TablePlace → List ℕ
place_text place =
    if place.word == 0 then codes " at start" else number_text (codes " at word") place.word ++ number_text (codes " after call") place.call

unfoldable pub least_text : Option LeastReady → List ℕ
least_text None = codes " least ready none"
least_text (Some least) = number_text (codes " least ready") least.ready ++ place_text least.place

-- an address that was open throughout
unfoldable pub address_text : List ℕ → List ℕ
address_text address = codes "open throughout " ++ address

unfoldable pub open_line : OpenAddress → List ℕ
open_line one = address_text one.address ++ least_text one.least ++ codes "\n"

abbrev pub open_lines : List OpenAddress → List ℕ
open_lines [] = []
open_lines (one ∷ more) = open_line one ++ open_lines more

abbrev pub all_open_text : List OpenAddress → List ℕ
all_open_text [] = codes "open throughout none\n"
all_open_text (one ∷ more) = open_lines (one ∷ more)

unfoldable pub healed_text : Option ℕ → List ℕ
healed_text None = codes " not healed"
healed_text (Some word) = number_text (codes " healed word") word

-- a word that ended with missing workers
unfoldable pub short_line : ShortWord → List ℕ
short_line short =
    codes "short " ++ word_text short.word ++ number_text (codes " missing") short.missing ++ healed_text short.healed ++ codes "\n"

abbrev pub short_lines : List ShortWord → List ℕ
short_lines [] = []
short_lines (short ∷ more) = short_line short ++ short_lines more

abbrev pub all_shorts_text : List ShortWord → List ℕ
all_shorts_text [] = codes "short none\n"
all_shorts_text (short ∷ more) = short_lines (short ∷ more)

unfoldable pub words_line : ℕ → List ℕ
words_line words = number_text (codes "life words") words ++ codes "\n"

-- all lines, of a life of so many words
abbrev pub life_text : ℕ → Account → List ℕ
life_text words a = words_line words ++ all_open_text a.addresses ++ all_shorts_text a.shorts
