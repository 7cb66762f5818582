mod Dividends
