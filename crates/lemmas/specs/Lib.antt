-- Laws of the definitions, for the demands and for the proofs of the code. Nothing is assumed.

-- lists in the words of the rules; a list that has each number below n once; answers that a bad draw may cut short
pub mod Lists
pub mod Once
pub mod Outs
-- growth over any way to choose: the last to wait is split first
pub mod WaitingOrder
-- its nodes, and what a split does to them
pub mod Nodes
-- a change of what is left to choose by goes through the whole growth
pub mod Lifted
-- a limit that a growth stays below does not show
pub mod Unmet
-- values that a fit accepts, and the threshold between two of them
pub mod Values
-- a search at two heights: one law of what it holds
pub mod Heights
-- a cut that is found leaves rows on both sides, and both are good nodes again; where it stands
pub mod Cuts
-- a search finds a cut exactly where a feature tried offers one
pub mod Offers
pub mod OffersAlike
-- two growths alike but for the height: the same rows go the same way
pub mod Twins
-- how many nodes a growth makes at most
pub mod Room
-- what a growth draws from the tapes
pub mod Spent
-- one growth follows another, over any two sources; and it looks at no more of its tapes than it uses
pub mod Follows
pub mod Tapes
-- what a split leaves
pub mod Splits
-- the history of a growth: every node as it was met, in the order of their numbers; that every growth has one, and what it says of every node
pub mod Met
pub mod History
pub mod Settled
-- the root of a fit that passes its checks is good
pub mod Root
-- one fit at two heights
pub mod TwinFits
-- what a fit knows once its checks have passed
pub mod Passed
-- good tables: a walk ends at a leaf, and what a fit grows is one
pub mod Tables
-- through which nodes a row's walk passes, and the level of a node
pub mod Passes
-- the rows of a node are those whose walk passes through it
pub mod Reached
-- the history of a fit, by row numbers
pub mod FitHistory
-- what is written can be read back: trees laid out as a table, those of a fit, and the two columns beside them
pub mod Laid
pub mod Written
pub mod Beside
-- what a fit that answers has passed, grown and written
pub mod Answered
-- the number of features tried by default
pub mod Tried
-- the work columns as code lays them
pub mod Work
-- loops over the entries of a list, and over the numbers below n; marks of the numbers that a loop has met
pub mod Scans
pub mod Marks
-- chains of tests, how a call ends by its verdict, and what a shape in range says
pub mod Tests
-- where a cell lies among the values, and a listing among the listings
pub mod Cells
-- the tests of listings: how they end
pub mod Faults
-- a list with new entries from some place on
pub mod Spliced
-- numbers and floats as bytes, where bytes lie in a file, and its fields one at a time
pub mod ByteNumbers
pub mod Lies
pub mod Fields
-- what is seen of an entry
pub mod Seen
-- a model file: what is read is written, and what is written is read
pub mod FileRead
pub mod FileWritten
pub mod FileLength
-- how its calls end
pub mod ModelCalls
